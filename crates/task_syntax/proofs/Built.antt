-- Trees built for examples, layer by layer, so that what they mean can be computed.
use Rattle.std.proofs.Common.{ℕ, List, []}
use Rattle.std.specs.Prelude.{Option, Some, None, slice_index}
use Rattle.coati_word.specs.declared.operator.Op.{Op}
use Rattle.coati_word.specs.declared.operator.Op1.{Op1}
use Rattle.task_syntax.specs.declared.name.Name.{Name}
use Rattle.task_syntax.specs.declared.program.Var.{Var}
use Rattle.task_syntax.specs.declared.program.Init.TheVariants as init
use Rattle.task_syntax.specs.declared.program.Program.{Program}
use Rattle.task_syntax.specs.declared.program.TaskDecl.{TaskDecl}
use Rattle.task_syntax.specs.declared.program.UnitDecl.{UnitDecl}
use Rattle.task_syntax.specs.declared.program.UnitDecl.TheVariants.{Lone, Tx}
use Rattle.task_syntax.specs.declared.expression.Expr.{Expr}
use Rattle.task_syntax.specs.declared.expression.Place.{Place}
use Rattle.task_syntax.specs.declared.expression.Expr as E
use Rattle.task_syntax.specs.declared.expression.Place as P
use Rattle.task_syntax.specs.declared.statement.Stmt.{Stmt}
use Rattle.task_syntax.specs.declared.statement.Stmt as S
use Rattle.task_syntax.specs.Course.{Store}

abbrev pub named : List ℕ → Name
named text = record { text = text; at = 0 }

abbrev pub number : ℕ → Expr
number value = E.roll-Expr (E.Expr-F.Num value)

abbrev pub plain : List ℕ → Place
plain name = P.roll-Place (P.Place-F.Plain (named name))

abbrev pub item : List ℕ → Expr → Place
item name index = P.roll-Place (P.Place-F.Item (named name) index)

abbrev pub get : Place → Expr
get place = E.roll-Expr (E.Expr-F.Get place)

abbrev pub one : Op1 → Expr → Expr
one op operand = E.roll-Expr (E.Expr-F.One op operand)

abbrev pub two : Op → Expr → Expr → Expr
two op left right = E.roll-Expr (E.Expr-F.Two op left right)

abbrev pub assign : Place → Expr → Stmt
assign place value = S.roll-Stmt (S.Stmt-F.Assign place value)

abbrev pub choose : Expr → List Stmt → Option (List Stmt) → Stmt
choose condition block other = S.roll-Stmt (S.Stmt-F.If condition block other)

abbrev pub repeat : List ℕ → ℕ → List Stmt → Stmt
repeat name count block = S.roll-Stmt (S.Stmt-F.Repeat (named name) count block)

abbrev pub next : List ℕ → Stmt
next task = S.roll-Stmt (S.Stmt-F.Next (named task))

abbrev pub halt : Stmt
halt = S.roll-Stmt (S.Stmt-F.Halt 0)

abbrev pub give : List Expr → Stmt
give values = S.roll-Stmt (S.Stmt-F.Give values 0)

abbrev pub scalar : List ℕ → ℕ → Var
scalar name value = record { name = named name; length = None; init = init.One value }

abbrev pub task : List ℕ → List Stmt → TaskDecl
task name body = record { name = named name; body = body }

abbrev pub let' : List ℕ → Expr → Stmt
let' name value = S.roll-Stmt (S.Stmt-F.Let (named name) value)

abbrev pub array : List ℕ → ℕ → List ℕ → Var
array name length values = record { name = named name; length = Some length; init = init.Many values }

abbrev pub program : List Var → List UnitDecl → Program
program vars units = record { vars = vars; buffer = None; events = []; units = units }

abbrev pub lone : List ℕ → List Stmt → UnitDecl
lone name body = Lone (task name body)

abbrev pub transaction : List ℕ → List TaskDecl → UnitDecl
transaction name tasks = Tx (record { name = named name; tasks = tasks })

-- a store that holds these values, and 0 behind them
abbrev pub holding : List ℕ → Store
holding values word = slice_index values word
