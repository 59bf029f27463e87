-- The cost of a body: the machine steps that it takes at most. Each instruction is one step, and a
-- store to a variable counts 3.
use Rattle.std.specs.Prelude.{ℕ, ◌+◌, ◌*◌, List, map, sum, max, Option, Some, None}
use Rattle.task_syntax.specs.declared.program.Program.{Program}
use Rattle.task_syntax.specs.declared.expression.Expr.{Expr}
use Rattle.task_syntax.specs.declared.expression.Place.{Place}
use Rattle.task_syntax.specs.declared.expression.Expr.TheOpen.{Expr-F, Place-F}
use Rattle.task_syntax.specs.declared.expression.Expr.TheFolds.{fold-Expr, fold-Place}
use Rattle.task_syntax.specs.declared.statement.Stmt.{Stmt}
use Rattle.task_syntax.specs.declared.statement.Stmt.TheOpen.{Stmt-F}
use Rattle.task_syntax.specs.declared.statement.Stmt.TheFolds.{fold-Stmt}
use Rattle.task_syntax.specs.declared.body.Kind.{Kind}
use Rattle.task_syntax.specs.declared.body.Kind.TheVariants.{Task, Top, Bottom}
use Rattle.task_syntax.specs.Names.{Words, words_of}

-- operands, and one step for what is done with them
abbrev pub expression_cost_step : Expr-F ℕ ℕ → ℕ
expression_cost_step (Expr-F.Num number) = 1
expression_cost_step (Expr-F.Get index) = index + 1
expression_cost_step (Expr-F.One op operand) = operand + 1
expression_cost_step (Expr-F.Two op left right) = left + right + 1

-- a place without an index costs nothing before it is read or written
abbrev pub index_cost_step : Place-F ℕ ℕ → ℕ
index_cost_step (Place-F.Plain name) = 0
index_cost_step (Place-F.Item name index) = index

-- the cost of an expression
abbrev pub expression_cost : Expr → ℕ
expression_cost = fold-Expr ℕ ℕ expression_cost_step index_cost_step

-- the cost of a place's index
abbrev pub index_cost : Place → ℕ
index_cost = fold-Place ℕ ℕ expression_cost_step index_cost_step

-- the cost of expressions, one after another
abbrev pub expressions_cost : List Expr → ℕ
expressions_cost es = sum (map expression_cost es)

-- a local is set in one step
abbrev pub plain_store_cost : Option Words → ℕ
plain_store_cost None = 1
plain_store_cost (Some words) = 3

-- a condition, one step that looks at it, and the greater of the blocks; the block before an
-- `else` jumps over the other
abbrev pub condition_cost : ℕ → ℕ → Option ℕ → ℕ
condition_cost condition block None = condition + 1 + block
condition_cost condition block (Some other) = condition + 1 + max (block + 1) other

-- two steps before the first turn, nine round each block, four at the end
abbrev pub loop_cost : ℕ → ℕ → ℕ
loop_cost count block = 2 + count * (9 + block) + 4

-- the cost of the block behind `else`, where there is one
abbrev pub sum_of : Option (List ℕ) → Option ℕ
sum_of None = None
sum_of (Some costs) = Some (sum costs)

-- a bottom half ends with one step of its own
abbrev pub end_cost : Kind → ℕ
end_cost Task = 0
end_cost Top = 0
end_cost Bottom = 1

module _ (program : Program) where
  -- a store to a variable is 3
  abbrev pub store_step : Place-F ℕ ℕ → ℕ
  store_step (Place-F.Plain name) = plain_store_cost (words_of program name.text)
  store_step (Place-F.Item name index) = 3

  -- the cost of storing to a place
  abbrev pub store_cost : Place → ℕ
  store_cost = fold-Place ℕ ℕ expression_cost_step store_step

  -- one layer of a statement
  abbrev pub statement_cost_step : Stmt-F ℕ → ℕ
  statement_cost_step (Stmt-F.Let name e) = expression_cost e + 1
  statement_cost_step (Stmt-F.Assign place e) =
      index_cost place + expression_cost e + store_cost place
  statement_cost_step (Stmt-F.If condition block other) =
      condition_cost (expression_cost condition) (sum block) (sum_of other)
  statement_cost_step (Stmt-F.Repeat name count block) = loop_cost count (sum block)
  statement_cost_step (Stmt-F.Next name) = 1
  statement_cost_step (Stmt-F.Halt at) = 1
  statement_cost_step (Stmt-F.Give es at) = expressions_cost es + 1

  -- the cost of a statement
  abbrev pub statement_cost : Stmt → ℕ
  statement_cost = fold-Stmt ℕ statement_cost_step

  -- the cost of statements, one after another
  abbrev pub statements_cost : List Stmt → ℕ
  statements_cost stmts = sum (map statement_cost stmts)

  -- the cost of a body
  abbrev pub body_cost : List Stmt → Kind → ℕ
  body_cost stmts kind = statements_cost stmts + end_cost kind
