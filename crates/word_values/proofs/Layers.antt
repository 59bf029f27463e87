-- Each layer of a program's tree gives words where its parts do.
use Rattle.std.proofs.Common.{◌≡◌, ◌+◌, ◌==◌, ℕ, zero, suc, Bool, true, false, List, [], ◌∷◌, map, subst, arith, if◌then◌else◌}
use Rattle.std.specs.Prelude.{Option, Some, None}
use Rattle.coati_word.specs.declared.ending.Ending.TheVariants.{Given}
use Rattle.coati_word.specs.declared.operator.Op.{Op}
use Rattle.coati_word.specs.declared.operator.Op1.{Op1}
use Rattle.coati_word.specs.Operator.{operator_value, unary_value}
use Rattle.coati_word.specs.OperatorLaws.{IsWord, OperatorsGiveWords, UnaryOperatorsGiveWords}
use Rattle.task_syntax.specs.declared.name.Name.{Name}
use Rattle.task_syntax.specs.declared.program.Program.{Program}
use Rattle.task_syntax.specs.declared.expression.Expr.{Expr}
use Rattle.task_syntax.specs.declared.expression.Place.{Place}
use Rattle.task_syntax.specs.declared.expression.Expr as E
use Rattle.task_syntax.specs.declared.expression.Place as P
use Rattle.task_syntax.specs.declared.expression.Expr.TheVariants.{Num, Get, One, Two, rolls-Num, rolls-Get, rolls-One, rolls-Two}
use Rattle.task_syntax.specs.declared.expression.Place.TheVariants.{Plain, Item, rolls-Plain, rolls-Item}
use Rattle.task_syntax.specs.declared.statement.Stmt.{Stmt}
use Rattle.task_syntax.specs.declared.statement.Stmt as S
use Rattle.task_syntax.specs.declared.statement.Stmt.TheVariants.{Let, Assign, If, Repeat, Next, Halt, Give, rolls-Let, rolls-Assign, rolls-If, rolls-Repeat, rolls-Next, rolls-Halt, rolls-Give}
use Rattle.task_syntax.specs.Course.{Course, chain}
use Rattle.task_syntax.specs.Names.{task_of, words_of}
use Rattle.task_syntax.specs.Expressions.{Aim, Locals, aim, aim_step, expression, expression_step, expressions, item_aim, value_at, with_local}
use Rattle.task_syntax.specs.Statements.{Conduct, Way, assigned, body, ending_of, next_task, otherwise, statement, statement_step, statements, turns, unless_out}
use Rattle.word_values.specs.Words.{AreWords, EndsInWords, GivesWords}
use Rattle.word_values.proofs.Gives.{Anything, AreLocals, gives-chain, one-local}

-- where a statement leads
abbrev pub LeadsInWords : Way → Type 0
LeadsInWords (Way.on locals) = AreLocals locals
LeadsInWords (Way.out ending) = EndsInWords ending

abbrev pub ConductGives : Conduct → Type 0
ConductGives conduct = (locals : Locals) → AreLocals locals → GivesWords LeadsInWords (conduct locals)

module _ (program : Program) (on_two : OperatorsGiveWords) (on_one : UnaryOperatorsGiveWords) where
  abbrev pub ExpressionGives : Expr → Type 0
  ExpressionGives e = (locals : Locals) → AreLocals locals → GivesWords IsWord (expression program e locals)

  abbrev pub PlaceGives : Place → Type 0
  PlaceGives p = (locals : Locals) → AreLocals locals → GivesWords (Anything {A = Aim}) (aim program p locals)

  abbrev pub ExpressionsGive : List Expr → Type 0
  ExpressionsGive es = (locals : Locals) → AreLocals locals → GivesWords AreWords (expressions program es locals)

  abbrev Evaluates : Type 0
  Evaluates = Locals → Course ℕ

  abbrev Leads : Type 0
  Leads = Locals → Course Aim

  -- a layer of an expression, and of a place
  expression-gives : (x : E.Expr-F Expr Place) (e : Expr) → E.roll-Expr x ≡ e
      → ((locals : Locals) → AreLocals locals
      → GivesWords IsWord (expression_step program (E.map-Expr Expr Place Evaluates Leads (expression program) (aim program) x) locals))
      → ExpressionGives e
  expression-gives x e is gives =
      subst ExpressionGives is (λ locals words. rw (E.fold-roll-Expr Evaluates Leads (expression_step program) (aim_step program) x) (gives locals words))

  place-gives : (x : P.Place-F Expr Place) (p : Place) → P.roll-Place x ≡ p
      → ((locals : Locals) → AreLocals locals
      → GivesWords (Anything {A = Aim}) (aim_step program (P.map-Place Expr Place Evaluates Leads (expression program) (aim program) x) locals))
      → PlaceGives p
  place-gives x p is gives =
      subst PlaceGives is (λ locals words. rw (P.fold-roll-Place Evaluates Leads (expression_step program) (aim_step program) x) (gives locals words))

  value-gives : (locals : Locals) → AreLocals locals → (at : Aim) → GivesWords IsWord (value_at locals at)
  value-gives locals words (Aim.named name) = words name
  value-gives locals words (Aim.in_word word) = λ value is. is

  pub num-gives : (number : ℕ) → IsWord number → ExpressionGives (Num number)
  num-gives number is = expression-gives (E.Expr-F.Num number) (Num number) (rolls-Num number) (λ locals words. is)

  pub get-gives : (place : Place) → PlaceGives place → ExpressionGives (Get place)
  get-gives place gives =
      expression-gives (E.Expr-F.Get place) (Get place) (rolls-Get place)
      (λ locals words. gives-chain (Anything {A = Aim}) IsWord (aim program place locals) (value_at locals) (gives locals words)
      (λ at any. value-gives locals words at))

  pub one-gives : (op : Op1) (operand : Expr) → ExpressionGives operand → ExpressionGives (One op operand)
  one-gives op operand gives =
      expression-gives (E.Expr-F.One op operand) (One op operand) (rolls-One op operand)
      (λ locals words. gives-chain IsWord IsWord (expression program operand locals) (λ a. Course.ends (unary_value op a)) (gives locals words)
      (λ a is. on_one op a is))

  pub two-gives : (op : Op) (left right : Expr) → ExpressionGives left → ExpressionGives right → ExpressionGives (Two op left right)
  two-gives op left right first second =
      expression-gives (E.Expr-F.Two op left right) (Two op left right) (rolls-Two op left right)
      (λ locals words. gives-chain IsWord IsWord (expression program left locals)
      (λ a. chain (expression program right locals) (λ b. Course.ends (operator_value op a b))) (first locals words)
      (λ a is. gives-chain IsWord IsWord (expression program right locals) (λ b. Course.ends (operator_value op a b)) (second locals words)
      (λ b so. on_two op a b is so)))

  pub plain-gives : (name : Name) → PlaceGives (Plain name)
  plain-gives name = place-gives (P.Place-F.Plain name) (Plain name) (rolls-Plain name) (λ locals words. tt)

  pub item-gives : (name : Name) (index : Expr) → ExpressionGives index → PlaceGives (Item name index)
  item-gives name index gives =
      place-gives (P.Place-F.Item name index) (Item name index) (rolls-Item name index)
      (λ locals words. gives-chain IsWord (Anything {A = Aim}) (expression program index locals)
      (λ i. Course.ends (item_aim name.text i (words_of program name.text))) (gives locals words) (λ i is. tt))

  pub no-expressions : ExpressionsGive []
  no-expressions locals words = tt

  pub one-more : (first : Expr) (more : List Expr) → ExpressionGives first → ExpressionsGive more → ExpressionsGive (first ∷ more)
  one-more first more one others locals words =
      gives-chain IsWord AreWords (expression program first locals)
      (λ a. chain (expressions program more locals) (λ rest. Course.ends (a ∷ rest))) (one locals words)
      (λ a is. gives-chain AreWords AreWords (expressions program more locals) (λ rest. Course.ends (a ∷ rest)) (others locals words)
      (λ rest so. (is, so)))

  -- a layer of a statement
  abbrev pub StatementGives : Stmt → Type 0
  StatementGives s = ConductGives (statement program s)

  abbrev pub BlockGives : List Stmt → Type 0
  BlockGives block = ConductGives (statements program block)

  statement-gives : (x : S.Stmt-F Stmt) (s : Stmt) → S.roll-Stmt x ≡ s
      → ConductGives (statement_step program (S.map-Stmt Stmt Conduct (statement program) x)) → StatementGives s
  statement-gives x s is gives =
      subst StatementGives is (λ locals words. rw (S.fold-roll-Stmt Conduct (statement_step program) x) (gives locals words))

  -- what follows a value
  value-leads : (e : Expr) (locals : Locals) (go_on : ℕ → Course Way) → ExpressionGives e → AreLocals locals
      → ((value : ℕ) → IsWord value → GivesWords LeadsInWords (go_on value)) → GivesWords LeadsInWords (chain (expression program e locals) go_on)
  value-leads e locals go_on gives words leads = gives-chain IsWord LeadsInWords (expression program e locals) go_on (gives locals words) leads

  after-way : (rest : Conduct) → ConductGives rest → (way : Way) → LeadsInWords way → GivesWords LeadsInWords (unless_out rest way)
  after-way rest gives (Way.on locals) words = gives locals words
  after-way rest gives (Way.out ending) words = words

  pub none-in-turn : BlockGives []
  none-in-turn locals words = words

  pub more-in-turn : (first : Stmt) (more : List Stmt) → StatementGives first → BlockGives more → BlockGives (first ∷ more)
  more-in-turn first more one others locals words =
      gives-chain LeadsInWords LeadsInWords (statement program first locals) (unless_out (statements program more)) (one locals words)
      (after-way (statements program more) others)

  assigned-gives : (locals : Locals) (at : Aim) (value : ℕ) → AreLocals locals → IsWord value → GivesWords LeadsInWords (assigned locals at value)
  assigned-gives locals (Aim.named name) value words is = one-local name value locals is words
  assigned-gives locals (Aim.in_word word) value words is = (is, words)

  pub let-gives : (name : Name) (e : Expr) → ExpressionGives e → StatementGives (Let name e)
  let-gives name e gives =
      statement-gives (S.Stmt-F.Let name e) (Let name e) (rolls-Let name e)
      (λ locals words. value-leads e locals (λ value. Course.ends (Way.on (with_local name.text value locals))) gives words
      (λ value is. one-local name.text value locals is words))

  pub assign-gives : (place : Place) (e : Expr) → PlaceGives place → ExpressionGives e → StatementGives (Assign place e)
  assign-gives place e aims gives =
      statement-gives (S.Stmt-F.Assign place e) (Assign place e) (rolls-Assign place e)
      (λ locals words. gives-chain (Anything {A = Aim}) LeadsInWords (aim program place locals)
      (λ a. chain (expression program e locals) (assigned locals a)) (aims locals words)
      (λ a any. value-leads e locals (assigned locals a) gives words (λ value is. assigned-gives locals a value words is)))

  -- the block behind `else`, where there is one
  abbrev pub OtherGives : Option (List Stmt) → Type 0
  OtherGives None = Unit {0}
  OtherGives (Some block) = BlockGives block

  choice-gives : (condition : Expr) (block : List Stmt) (other : Option (List Conduct)) → ExpressionGives condition → BlockGives block
      → ConductGives (otherwise other) → ConductGives (statement_step program (S.Stmt-F.If condition (map (statement program) block) other))
  choice-gives condition block other gives first second locals words =
      value-leads condition locals (λ value. if value == 0 then otherwise other locals else statements program block locals) gives words
      (λ value is. by (value == 0))
    where
      by : (test : Bool) → GivesWords LeadsInWords (if test then otherwise other locals else statements program block locals)
      by true = second locals words
      by false = first locals words

  pub if-gives : (condition : Expr) (block : List Stmt) (other : Option (List Stmt)) → ExpressionGives condition → BlockGives block
      → OtherGives other → StatementGives (If condition block other)
  if-gives condition block None gives first second =
      statement-gives (S.Stmt-F.If condition block None) (If condition block None) (rolls-If condition block None)
      (choice-gives condition block None gives first (λ locals words. words))
  if-gives condition block (Some other) gives first second =
      statement-gives (S.Stmt-F.If condition block (Some other)) (If condition block (Some other)) (rolls-If condition block (Some other))
      (choice-gives condition block (Some (map (statement program) other)) gives first second)

  turns-give : (left turn : ℕ) (name : List ℕ) (block : Conduct) → IsWord (turn + left) → ConductGives block
      → ConductGives (turns left turn name block)
  turns-give zero turn name block is gives locals words = words
  turns-give (suc left) turn name block is gives locals words =
      let here : IsWord turn = omega (arith, is) in
      let next : IsWord (turn + 1 + left) = omega (arith, is) in
      gives-chain LeadsInWords LeadsInWords (block (with_local name turn locals)) (unless_out (turns left (turn + 1) name block))
      (gives (with_local name turn locals) (one-local name turn locals here words))
      (after-way (turns left (turn + 1) name block) (turns-give left (turn + 1) name block next gives))

  pub repeat-gives : (name : Name) (count : ℕ) (block : List Stmt) → IsWord count → BlockGives block → StatementGives (Repeat name count block)
  repeat-gives name count block is gives =
      let all : IsWord (0 + count) = omega (arith, is) in
      statement-gives (S.Stmt-F.Repeat name count block) (Repeat name count block) (rolls-Repeat name count block)
      (turns-give count 0 name.text (statements program block) all gives)

  next-ends : (task : Option ℕ) → EndsInWords (next_task task)
  next-ends None = tt
  next-ends (Some task) = tt

  pub next-gives : (name : Name) → StatementGives (Next name)
  next-gives name = statement-gives (S.Stmt-F.Next name) (Next name) (rolls-Next name) (λ locals words. next-ends (task_of program name.text))

  pub halt-gives : (at : ℕ) → StatementGives (Halt at)
  halt-gives at = statement-gives (S.Stmt-F.Halt at) (Halt at) (rolls-Halt at) (λ locals words. tt)

  pub give-gives : (es : List Expr) (at : ℕ) → ExpressionsGive es → StatementGives (Give es at)
  give-gives es at gives =
      statement-gives (S.Stmt-F.Give es at) (Give es at) (rolls-Give es at)
      (λ locals words. gives-chain AreWords LeadsInWords (expressions program es locals) (λ values. Course.ends (Way.out (Given values)))
      (gives locals words) (λ values are. are))

  ending-gives : (way : Way) → LeadsInWords way → GivesWords EndsInWords (ending_of way)
  ending-gives (Way.on locals) leads = tt
  ending-gives (Way.out ending) leads = leads

  pub body-gives : (stmts : List Stmt) (locals : Locals) → BlockGives stmts → AreLocals locals → GivesWords EndsInWords (body program stmts locals)
  body-gives stmts locals gives words =
      gives-chain LeadsInWords EndsInWords (statements program stmts locals) ending_of (gives locals words) ending-gives
