-- What each layer of a tree means, in terms of its parts.
use Rattle.std.proofs.Common.{◌≡◌, ℕ, List, refl}
use Rattle.std.specs.Prelude.{None, Some, ◌==◌, if◌then◌else◌}
use Rattle.coati_word.specs.declared.operator.Op.{Op}
use Rattle.coati_word.specs.declared.operator.Op1.{Op1}
use Rattle.coati_word.specs.declared.ending.Ending.TheVariants.{Halt, Given}
use Rattle.coati_word.specs.Operator.{operator_value, unary_value}
use Rattle.task_syntax.specs.declared.name.Name.{Name}
use Rattle.task_syntax.specs.declared.program.Program.{Program}
use Rattle.task_syntax.specs.declared.expression.Expr.{Expr}
use Rattle.task_syntax.specs.declared.expression.Place.{Place}
use Rattle.task_syntax.specs.declared.expression.Expr as E
use Rattle.task_syntax.specs.declared.expression.Place as P
use Rattle.task_syntax.specs.declared.statement.Stmt.{Stmt}
use Rattle.task_syntax.specs.declared.statement.Stmt as S
use Rattle.task_syntax.specs.Course.{Course, chain}
use Rattle.task_syntax.specs.Names.{words_of, task_of}
use Rattle.task_syntax.specs.Expressions.{Locals, with_local, plain_aim, item_aim, value_at, expression, expressions, aim}
use Rattle.task_syntax.specs.Statements.{Way, turns, assigned, next_task, statement, statements}

module _ (program : Program) where
  pub expression-num : (value : ℕ) (locals : Locals) → expression program (E.roll-Expr (E.Expr-F.Num value)) locals ≡ Course.ends value
  expression-num value locals = rw E.fold-roll-Expr refl

  pub expression-get : (place : Place) (locals : Locals) → expression program (E.roll-Expr (E.Expr-F.Get place)) locals ≡ chain (aim program place locals) (value_at locals)
  expression-get place locals = rw E.fold-roll-Expr refl

  pub expression-one : (op : Op1) (operand : Expr) (locals : Locals) →
      expression program (E.roll-Expr (E.Expr-F.One op operand)) locals ≡ chain (expression program operand locals) (λ a. Course.ends (unary_value op a))
  expression-one op operand locals = rw E.fold-roll-Expr refl

  pub expression-two : (op : Op) (left right : Expr) (locals : Locals) →
      expression program (E.roll-Expr (E.Expr-F.Two op left right)) locals
      ≡ chain (expression program left locals) (λ a. chain (expression program right locals) (λ b. Course.ends (operator_value op a b)))
  expression-two op left right locals = rw E.fold-roll-Expr refl

  pub aim-plain : (name : Name) (locals : Locals) → aim program (P.roll-Place (P.Place-F.Plain name)) locals ≡ Course.ends (plain_aim name.text (words_of program name.text))
  aim-plain name locals = rw P.fold-roll-Place refl

  pub aim-item : (name : Name) (index : Expr) (locals : Locals) →
      aim program (P.roll-Place (P.Place-F.Item name index)) locals
      ≡ chain (expression program index locals) (λ i. Course.ends (item_aim name.text i (words_of program name.text)))
  aim-item name index locals = rw P.fold-roll-Place refl

  pub statement-let : (name : Name) (e : Expr) (locals : Locals) →
      statement program (S.roll-Stmt (S.Stmt-F.Let name e)) locals ≡ chain (expression program e locals) (λ value. Course.ends (Way.on (with_local name.text value locals)))
  statement-let name e locals = rw S.fold-roll-Stmt refl

  pub statement-assign : (place : Place) (e : Expr) (locals : Locals) →
      statement program (S.roll-Stmt (S.Stmt-F.Assign place e)) locals ≡ chain (aim program place locals) (λ a. chain (expression program e locals) (assigned locals a))
  statement-assign place e locals = rw S.fold-roll-Stmt refl

  pub statement-if : (condition : Expr) (block : List Stmt) (locals : Locals) →
      statement program (S.roll-Stmt (S.Stmt-F.If condition block None)) locals
      ≡ chain (expression program condition locals) (λ value. if value == 0 then Course.ends (Way.on locals) else statements program block locals)
  statement-if condition block locals = rw S.fold-roll-Stmt refl

  pub statement-if_else : (condition : Expr) (block other : List Stmt) (locals : Locals) →
      statement program (S.roll-Stmt (S.Stmt-F.If condition block (Some other))) locals
      ≡ chain (expression program condition locals) (λ value. if value == 0 then statements program other locals else statements program block locals)
  statement-if_else condition block other locals = rw S.fold-roll-Stmt refl

  pub statement-repeat : (name : Name) (count : ℕ) (block : List Stmt) (locals : Locals) →
      statement program (S.roll-Stmt (S.Stmt-F.Repeat name count block)) locals ≡ turns count 0 name.text (statements program block) locals
  statement-repeat name count block locals = rw S.fold-roll-Stmt refl

  pub statement-next : (name : Name) (locals : Locals) → statement program (S.roll-Stmt (S.Stmt-F.Next name)) locals ≡ Course.ends (Way.out (next_task (task_of program name.text)))
  statement-next name locals = rw S.fold-roll-Stmt refl

  pub statement-halt : (at : ℕ) (locals : Locals) → statement program (S.roll-Stmt (S.Stmt-F.Halt at)) locals ≡ Course.ends (Way.out Halt)
  statement-halt at locals = rw S.fold-roll-Stmt refl

  pub statement-give : (es : List Expr) (at : ℕ) (locals : Locals) →
      statement program (S.roll-Stmt (S.Stmt-F.Give es at)) locals ≡ chain (expressions program es locals) (λ values. Course.ends (Way.out (Given values)))
  statement-give es at locals = rw S.fold-roll-Stmt refl

pub ruleset layers = (expression-num, expression-get, expression-one, expression-two, aim-plain, aim-item, statement-let, statement-assign, statement-if, statement-if_else, statement-repeat, statement-next, statement-halt, statement-give)
