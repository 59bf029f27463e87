-- What each kind of expression, place and statement means, in terms of its parts.
use Rattle.std.proofs.Common.{◌≡◌, ℕ, List, sym, ap, ◌∙◌}
use Rattle.std.specs.Prelude.{Some, None, ◌==◌, if◌then◌else◌}
use Rattle.coati_word.specs.declared.operator.Op.{Op}
use Rattle.coati_word.specs.declared.operator.Op1.{Op1}
use Rattle.coati_word.specs.declared.ending.Ending.TheVariants as ending
use Rattle.coati_word.specs.Operator.{operator_value, unary_value}
use Rattle.task_syntax.specs.declared.name.Name.{Name}
use Rattle.task_syntax.specs.declared.program.Program.{Program}
use Rattle.task_syntax.specs.declared.expression.Expr.{Expr}
use Rattle.task_syntax.specs.declared.expression.Expr as E
use Rattle.task_syntax.specs.declared.expression.Expr.TheVariants.{Num, Get, One, Two, rolls-Num, rolls-Get, rolls-One, rolls-Two}
use Rattle.task_syntax.specs.declared.expression.Place.{Place}
use Rattle.task_syntax.specs.declared.expression.Place as P
use Rattle.task_syntax.specs.declared.expression.Place.TheVariants.{Plain, Item, rolls-Plain, rolls-Item}
use Rattle.task_syntax.specs.declared.statement.Stmt.{Stmt}
use Rattle.task_syntax.specs.declared.statement.Stmt as S
use Rattle.task_syntax.specs.declared.statement.Stmt.TheVariants.{Let, Assign, If, Repeat, Next, Halt, Give, rolls-Let, rolls-Assign, rolls-If, rolls-Repeat, rolls-Next, rolls-Halt, rolls-Give}
use Rattle.task_syntax.specs.Course.{Course, chain}
use Rattle.task_syntax.specs.Names.{words_of, task_of}
use Rattle.task_syntax.specs.Expressions.{Locals, Aim, with_local, plain_aim, item_aim, value_at, expression, expression_step, expressions, aim, aim_step}
use Rattle.task_syntax.specs.Statements.{Way, Conduct, turns, assigned, next_task, statement, statement_step, statements}

module _ (program : Program) where
  abbrev Evaluates : Type 0
  Evaluates = Locals → Course ℕ

  abbrev Leads : Type 0
  Leads = Locals → Course Aim

  expression_layer : (e : Expr) (x : E.Expr-F Expr Place) → E.roll-Expr x ≡ e → (locals : Locals) →
      expression program e locals ≡ expression_step program (E.map-Expr Expr Place Evaluates Leads (expression program) (aim program) x) locals
  expression_layer e x is locals =
      ap (λ (whole : Expr). expression program whole locals) (sym is)
      ∙ ap (λ (evaluates : Evaluates). evaluates locals) (E.fold-roll-Expr Evaluates Leads (expression_step program) (aim_step program) x)

  place_layer : (place : Place) (x : P.Place-F Expr Place) → P.roll-Place x ≡ place → (locals : Locals) →
      aim program place locals ≡ aim_step program (P.map-Place Expr Place Evaluates Leads (expression program) (aim program) x) locals
  place_layer place x is locals =
      ap (λ (whole : Place). aim program whole locals) (sym is)
      ∙ ap (λ (leads : Leads). leads locals) (P.fold-roll-Place Evaluates Leads (expression_step program) (aim_step program) x)

  statement_layer : (s : Stmt) (x : S.Stmt-F Stmt) → S.roll-Stmt x ≡ s → (locals : Locals) →
      statement program s locals ≡ statement_step program (S.map-Stmt Stmt Conduct (statement program) x) locals
  statement_layer s x is locals =
      ap (λ (whole : Stmt). statement program whole locals) (sym is)
      ∙ ap (λ (conduct : Conduct). conduct locals) (S.fold-roll-Stmt Conduct (statement_step program) x)

  pub expression-num : (number : ℕ) (locals : Locals) → expression program (Num number) locals ≡ Course.ends number
  expression-num number = expression_layer (Num number) (E.Expr-F.Num number) (rolls-Num number)

  pub expression-get : (place : Place) (locals : Locals) → expression program (Get place) locals ≡ chain (aim program place locals) (value_at locals)
  expression-get place = expression_layer (Get place) (E.Expr-F.Get place) (rolls-Get place)

  pub expression-one : (op : Op1) (operand : Expr) (locals : Locals) →
      expression program (One op operand) locals ≡ chain (expression program operand locals) (λ a. Course.ends (unary_value op a))
  expression-one op operand = expression_layer (One op operand) (E.Expr-F.One op operand) (rolls-One op operand)

  pub expression-two : (op : Op) (left right : Expr) (locals : Locals) →
      expression program (Two op left right) locals
      ≡ chain (expression program left locals) (λ a. chain (expression program right locals) (λ b. Course.ends (operator_value op a b)))
  expression-two op left right = expression_layer (Two op left right) (E.Expr-F.Two op left right) (rolls-Two op left right)

  pub aim-plain : (name : Name) (locals : Locals) → aim program (Plain name) locals ≡ Course.ends (plain_aim name.text (words_of program name.text))
  aim-plain name = place_layer (Plain name) (P.Place-F.Plain name) (rolls-Plain name)

  pub aim-item : (name : Name) (index : Expr) (locals : Locals) →
      aim program (Item name index) locals ≡ chain (expression program index locals) (λ i. Course.ends (item_aim name.text i (words_of program name.text)))
  aim-item name index = place_layer (Item name index) (P.Place-F.Item name index) (rolls-Item name index)

  pub statement-let : (name : Name) (e : Expr) (locals : Locals) →
      statement program (Let name e) locals ≡ chain (expression program e locals) (λ value. Course.ends (Way.on (with_local name.text value locals)))
  statement-let name e = statement_layer (Let name e) (S.Stmt-F.Let name e) (rolls-Let name e)

  pub statement-assign : (place : Place) (e : Expr) (locals : Locals) →
      statement program (Assign place e) locals ≡ chain (aim program place locals) (λ a. chain (expression program e locals) (assigned locals a))
  statement-assign place e = statement_layer (Assign place e) (S.Stmt-F.Assign place e) (rolls-Assign place e)

  pub statement-if : (condition : Expr) (block : List Stmt) (locals : Locals) →
      statement program (If condition block None) locals
      ≡ chain (expression program condition locals) (λ value. if value == 0 then Course.ends (Way.on locals) else statements program block locals)
  statement-if condition block = statement_layer (If condition block None) (S.Stmt-F.If condition block None) (rolls-If condition block None)

  pub statement-if_else : (condition : Expr) (block other : List Stmt) (locals : Locals) →
      statement program (If condition block (Some other)) locals
      ≡ chain (expression program condition locals) (λ value. if value == 0 then statements program other locals else statements program block locals)
  statement-if_else condition block other = statement_layer (If condition block (Some other)) (S.Stmt-F.If condition block (Some other)) (rolls-If condition block (Some other))

  pub statement-repeat : (name : Name) (count : ℕ) (block : List Stmt) (locals : Locals) →
      statement program (Repeat name count block) locals ≡ turns count 0 name.text (statements program block) locals
  statement-repeat name count block = statement_layer (Repeat name count block) (S.Stmt-F.Repeat name count block) (rolls-Repeat name count block)

  pub statement-next : (name : Name) (locals : Locals) → statement program (Next name) locals ≡ Course.ends (Way.out (next_task (task_of program name.text)))
  statement-next name = statement_layer (Next name) (S.Stmt-F.Next name) (rolls-Next name)

  pub statement-halt : (at : ℕ) (locals : Locals) → statement program (Halt at) locals ≡ Course.ends (Way.out ending.Halt)
  statement-halt at = statement_layer (Halt at) (S.Stmt-F.Halt at) (rolls-Halt at)

  pub statement-give : (es : List Expr) (at : ℕ) (locals : Locals) →
      statement program (Give es at) locals ≡ chain (expressions program es locals) (λ values. Course.ends (Way.out (ending.Given values)))
  statement-give es at = statement_layer (Give es at) (S.Stmt-F.Give es at) (rolls-Give es at)
