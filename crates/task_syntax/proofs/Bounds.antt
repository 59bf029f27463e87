-- What courses may read and write: an expression only reads, and a body stays among the variables.
use Rattle.std.proofs.Common.{ℕ, zero, suc, ◌+◌, List, [], ◌∷◌, map, true, false, Bool, ◌==◌}
use Rattle.std.specs.Prelude.{Option, Some, None, All, if◌then◌else◌}
use Rattle.std.specs.List.{AllByRecursion}
use Rattle.std.proofs.lemmas.List.Elements.{All-nil, All-cons}
use Rattle.coati_word.specs.declared.ending.Ending.{Ending}
use Rattle.coati_word.specs.declared.ending.Ending.TheVariants.{Given}
use Rattle.coati_word.specs.Operator.{operator_value, unary_value}
use Rattle.task_syntax.specs.declared.program.Program.{Program}
use Rattle.task_syntax.specs.declared.expression.Expr.{Expr}
use Rattle.task_syntax.specs.declared.expression.Place.{Place}
use Rattle.task_syntax.specs.declared.expression.Expr as E
use Rattle.task_syntax.specs.declared.expression.Place as P
use Rattle.task_syntax.specs.declared.statement.Stmt.{Stmt}
use Rattle.task_syntax.specs.declared.statement.Stmt as S
use Rattle.task_syntax.specs.Course.{Course, chain, Store, put, Access, accesses}
use Rattle.task_syntax.specs.Names.{words_of}
use Rattle.task_syntax.specs.Expressions.{Locals, with_local, Aim, plain_aim, item_aim, value_at, expression, expression_step, aim, aim_step, expressions}
use Rattle.task_syntax.specs.Statements.{Way, Conduct, unless_out, in_turn, turns, assigned, otherwise, statement, statement_step, statements, body, ending_of}
use Rattle.task_syntax.proofs.Trees.{ExpressionCases, every_expression, every_place, StatementCases, AllOtherwise, every_statement, every_statement_of}

-- a course reads and writes only these words, and its answer is one of these
abbrev pub Keeps : {A : Type 0} → (ℕ → Type 0) → (ℕ → Type 0) → (A → Type 0) → Course A → Type 0
Keeps MayRead MayWrite Answers (Course.ends result) = Answers result
Keeps MayRead MayWrite Answers (Course.reads word go_on) = MayRead word × ((value : ℕ) → Keeps MayRead MayWrite Answers (go_on value))
Keeps MayRead MayWrite Answers (Course.writes word value rest) = MayWrite word × Keeps MayRead MayWrite Answers rest

-- an access to one of these words
abbrev pub Allowed : (ℕ → Type 0) → (ℕ → Type 0) → Access → Type 0
Allowed MayRead MayWrite (Access.read word value) = MayRead word
Allowed MayRead MayWrite (Access.wrote word value) = MayWrite word

-- where a place may be
abbrev pub AimsAt : (ℕ → Type 0) → Aim → Type 0
AimsAt Fits (Aim.named name) = Unit {0}
AimsAt Fits (Aim.in_word word) = Fits word

abbrev pub Anything : {A : Type 0} → A → Type 0
Anything result = Unit {0}

module _ (R W : ℕ → Type 0) where
  pub keeps-chain : {A B : Type 0} (P : A → Type 0) (Q : B → Type 0) (first : Course A) (next : A → Course B) →
      Keeps R W P first → ((result : A) → P result → Keeps R W Q (next result)) → Keeps R W Q (chain first next)
  keeps-chain P Q (Course.ends result) next kept go_on = go_on result kept
  keeps-chain P Q (Course.reads word more) next kept go_on = (kept.0, λ value. keeps-chain P Q (more value) next (kept.1 value) go_on)
  keeps-chain P Q (Course.writes word value rest) next kept go_on = (kept.0, keeps-chain P Q rest next kept.1 go_on)

  pub keeps-accesses : {A : Type 0} (P : A → Type 0) (course : Course A) (store : Store) → Keeps R W P course → All (Allowed R W) (accesses course store)
  keeps-accesses P (Course.ends result) store kept = All-nil (Allowed R W)
  keeps-accesses P (Course.reads word go_on) store kept =
      All-cons (Allowed R W) (Access.read word (store word)) (accesses (go_on (store word)) store) kept.0 (keeps-accesses P (go_on (store word)) store (kept.1 (store word)))
  keeps-accesses P (Course.writes word value rest) store kept =
      All-cons (Allowed R W) (Access.wrote word value) (accesses rest (put word value store)) kept.0 (keeps-accesses P rest (put word value store) kept.1)

-- every place that a name and an index can lead to fits
pub record PlacesFit (program : Program) (Fits : ℕ → Type 0) : Type 0 where
  pub plain : (name : List ℕ) → AimsAt Fits (plain_aim name (words_of program name))
  pub item : (name : List ℕ) (index : ℕ) → AimsAt Fits (item_aim name index (words_of program name))

module _ (program : Program) (R W : ℕ → Type 0) (fit : PlacesFit program R) where
  value_keeps : (locals : Locals) (place : Aim) → AimsAt R place → Keeps R W (Anything {A = ℕ}) (value_at locals place)
  value_keeps locals (Aim.named name) fits = tt
  value_keeps locals (Aim.in_word word) fits = (fits, λ value. tt)

  abbrev KeepsExpression : Expr → Type 0
  KeepsExpression e = (locals : Locals) → Keeps R W (Anything {A = ℕ}) (expression program e locals)

  abbrev KeepsPlace : Place → Type 0
  KeepsPlace place = (locals : Locals) → Keeps R W (AimsAt R) (aim program place locals)

  abbrev Evaluates : Type 0
  Evaluates = Locals → Course ℕ

  abbrev Leads : Type 0
  Leads = Locals → Course Aim

  rolled : (x : E.Expr-F Expr Place) →
      ((locals : Locals) → Keeps R W (Anything {A = ℕ}) (expression_step program (E.map-Expr Expr Place Evaluates Leads (expression program) (aim program) x) locals)) →
      KeepsExpression (E.roll-Expr x)
  rolled x kept locals = rw (E.fold-roll-Expr Evaluates Leads (expression_step program) (aim_step program) x) (kept locals)

  rolled_place : (x : P.Place-F Expr Place) →
      ((locals : Locals) → Keeps R W (AimsAt R) (aim_step program (P.map-Place Expr Place Evaluates Leads (expression program) (aim program) x) locals)) →
      KeepsPlace (P.roll-Place x)
  rolled_place x kept locals = rw (P.fold-roll-Place Evaluates Leads (expression_step program) (aim_step program) x) (kept locals)

  expression_cases : ExpressionCases KeepsExpression KeepsPlace
  expression_cases = record {
    num = λ value. rolled (E.Expr-F.Num value) (λ locals. tt);
    get = λ place kept. rolled (E.Expr-F.Get place) (λ locals.
        keeps-chain R W (AimsAt R) (Anything {A = ℕ}) (aim program place locals) (value_at locals) (kept locals) (value_keeps locals));
    one = λ op operand kept. rolled (E.Expr-F.One op operand) (λ locals.
        keeps-chain R W (Anything {A = ℕ}) (Anything {A = ℕ}) (expression program operand locals) (λ a. Course.ends (unary_value op a)) (kept locals) (λ a ok. tt));
    two = λ op left right kept also. rolled (E.Expr-F.Two op left right) (λ locals.
        keeps-chain R W (Anything {A = ℕ}) (Anything {A = ℕ}) (expression program left locals) _ (kept locals) (λ a ok.
        keeps-chain R W (Anything {A = ℕ}) (Anything {A = ℕ}) (expression program right locals) (λ b. Course.ends (operator_value op a b)) (also locals) (λ b good. tt)));
    plain = λ name. rolled_place (P.Place-F.Plain name) (λ locals. fit.plain name.text);
    item = λ name index kept. rolled_place (P.Place-F.Item name index) (λ locals.
        keeps-chain R W (Anything {A = ℕ}) (AimsAt R) (expression program index locals) (λ i. Course.ends (item_aim name.text i (words_of program name.text))) (kept locals) (λ i ok. fit.item name.text i));
  }

  pub expression_keeps : (e : Expr) (locals : Locals) → Keeps R W (Anything {A = ℕ}) (expression program e locals)
  expression_keeps = every_expression KeepsExpression KeepsPlace expression_cases

  pub aim_keeps : (place : Place) (locals : Locals) → Keeps R W (AimsAt R) (aim program place locals)
  aim_keeps = every_place KeepsExpression KeepsPlace expression_cases

  pub expressions_keep : (es : List Expr) (locals : Locals) → Keeps R W (Anything {A = List ℕ}) (expressions program es locals)
  expressions_keep [] locals = tt
  expressions_keep (first ∷ more) locals =
      keeps-chain R W (Anything {A = ℕ}) (Anything {A = List ℕ}) (expression program first locals) _ (expression_keeps first locals) (λ a ok.
      keeps-chain R W (Anything {A = List ℕ}) (Anything {A = List ℕ}) (expressions program more locals) (λ rest. Course.ends (a ∷ rest)) (expressions_keep more locals) (λ rest good. tt))

-- statements read and write the same words
module _ (program : Program) (R : ℕ → Type 0) (fit : PlacesFit program R) where
  abbrev KeepsConduct : Conduct → Type 0
  KeepsConduct conduct = (locals : Locals) → Keeps R R (Anything {A = Way}) (conduct locals)

  after_way : (rest : Conduct) → KeepsConduct rest → (way : Way) → Keeps R R (Anything {A = Way}) (unless_out rest way)
  after_way rest kept (Way.on locals) = kept locals
  after_way rest kept (Way.out ending) = tt

  in_turn_keeps : (conducts : List Conduct) → AllByRecursion KeepsConduct conducts → KeepsConduct (in_turn conducts)
  in_turn_keeps [] kept locals = tt
  in_turn_keeps (first ∷ more) kept locals =
      keeps-chain R R (Anything {A = Way}) (Anything {A = Way}) (first locals) (unless_out (in_turn more)) (kept.0 locals) (λ way ok. after_way (in_turn more) (in_turn_keeps more kept.1) way)

  turns_keep : (left turn : ℕ) (name : List ℕ) (block : Conduct) → KeepsConduct block → KeepsConduct (turns left turn name block)
  turns_keep zero turn name block kept locals = tt
  turns_keep (suc left) turn name block kept locals =
      keeps-chain R R (Anything {A = Way}) (Anything {A = Way}) (block (with_local name turn locals)) (unless_out (turns left (turn + 1) name block)) (kept (with_local name turn locals))
      (λ way ok. after_way (turns left (turn + 1) name block) (turns_keep left (turn + 1) name block kept) way)

  assigned_keeps : (locals : Locals) (place : Aim) (value : ℕ) → AimsAt R place → Keeps R R (Anything {A = Way}) (assigned locals place value)
  assigned_keeps locals (Aim.named name) value fits = tt
  assigned_keeps locals (Aim.in_word word) value fits = (fits, tt)

  either_keeps : (test : Bool) (then' else' : Course Way) → Keeps R R (Anything {A = Way}) then' → Keeps R R (Anything {A = Way}) else' → Keeps R R (Anything {A = Way}) (if test then then' else else')
  either_keeps true then' else' first second = first
  either_keeps false then' else' first second = second

  abbrev KeepsStatement : Stmt → Type 0
  KeepsStatement s = KeepsConduct (statement program s)

  conducts_keep : (block : List Stmt) → AllByRecursion KeepsStatement block → AllByRecursion KeepsConduct (map (statement program) block)
  conducts_keep [] kept = tt
  conducts_keep (first ∷ more) kept = (kept.0, conducts_keep more kept.1)

  block_keeps : (block : List Stmt) → AllByRecursion KeepsStatement block → KeepsConduct (statements program block)
  block_keeps block kept = in_turn_keeps (map (statement program) block) (conducts_keep block kept)

  rolled_statement : (x : S.Stmt-F Stmt) → KeepsConduct (statement_step program (S.map-Stmt Stmt Conduct (statement program) x)) → KeepsStatement (S.roll-Stmt x)
  rolled_statement x kept locals = rw (S.fold-roll-Stmt Conduct (statement_step program) x) (kept locals)

  value_leads : (e : Expr) (locals : Locals) (go_on : ℕ → Course Way) → ((value : ℕ) → Keeps R R (Anything {A = Way}) (go_on value)) → Keeps R R (Anything {A = Way}) (chain (expression program e locals) go_on)
  value_leads e locals go_on kept =
      keeps-chain R R (Anything {A = ℕ}) (Anything {A = Way}) (expression program e locals) go_on (expression_keeps program R R fit e locals) (λ value ok. kept value)

  assign_keeps : (place : Place) (e : Expr) (locals : Locals) → Keeps R R (Anything {A = Way}) (statement_step program (S.Stmt-F.Assign place e) locals)
  assign_keeps place e locals =
      keeps-chain R R (AimsAt R) (Anything {A = Way}) (aim program place locals) (λ a. chain (expression program e locals) (assigned locals a)) (aim_keeps program R R fit place locals)
      (λ a fits. value_leads e locals (assigned locals a) (λ value. assigned_keeps locals a value fits))

  choice_keeps : (condition : Expr) (block : List Stmt) (other : Option (List Conduct)) → AllByRecursion KeepsStatement block → KeepsConduct (otherwise other) →
      KeepsConduct (statement_step program (S.Stmt-F.If condition (map (statement program) block) other))
  choice_keeps condition block other kept also locals =
      value_leads condition locals (λ value. if value == 0 then otherwise other locals else in_turn (map (statement program) block) locals)
      (λ value. either_keeps (value == 0) (otherwise other locals) (in_turn (map (statement program) block) locals) (also locals) (block_keeps block kept locals))

  chosen_keeps : (condition : Expr) (block : List Stmt) (other : Option (List Stmt)) → AllByRecursion KeepsStatement block → AllOtherwise KeepsStatement other →
      KeepsStatement (S.roll-Stmt (S.Stmt-F.If condition block other))
  chosen_keeps condition block None kept also = rolled_statement (S.Stmt-F.If condition block None) (choice_keeps condition block None kept (λ locals. tt))
  chosen_keeps condition block (Some other) kept also =
      rolled_statement (S.Stmt-F.If condition block (Some other)) (choice_keeps condition block (Some (map (statement program) other)) kept (block_keeps other also))

  give_keeps : (es : List Expr) (locals : Locals) (leads : List ℕ → Way) → Keeps R R (Anything {A = Way}) (chain (expressions program es locals) (λ values. Course.ends (leads values)))
  give_keeps es locals leads =
      keeps-chain R R (Anything {A = List ℕ}) (Anything {A = Way}) (expressions program es locals) (λ values. Course.ends (leads values)) (expressions_keep program R R fit es locals) (λ values ok. tt)

  statement_cases : StatementCases KeepsStatement
  statement_cases = record {
    declared = λ name e. rolled_statement (S.Stmt-F.Let name e) (λ locals. value_leads e locals (λ value. Course.ends (Way.on (with_local name.text value locals))) (λ value. tt));
    assigned = λ place e. rolled_statement (S.Stmt-F.Assign place e) (assign_keeps place e);
    chosen = chosen_keeps;
    repeated = λ name count block kept. rolled_statement (S.Stmt-F.Repeat name count block) (turns_keep count 0 name.text (in_turn (map (statement program) block)) (block_keeps block kept));
    next = λ name. rolled_statement (S.Stmt-F.Next name) (λ locals. tt);
    halt = λ at. rolled_statement (S.Stmt-F.Halt at) (λ locals. tt);
    give = λ es at. rolled_statement (S.Stmt-F.Give es at) (λ locals. give_keeps es locals (λ values. Way.out (Given values)));
  }

  pub statement_keeps : (s : Stmt) (locals : Locals) → Keeps R R (Anything {A = Way}) (statement program s locals)
  statement_keeps = every_statement KeepsStatement statement_cases

  pub statements_keep : (block : List Stmt) (locals : Locals) → Keeps R R (Anything {A = Way}) (statements program block locals)
  statements_keep block = block_keeps block (every_statement_of KeepsStatement statement_cases block)

  ending_keeps : (way : Way) → Keeps R R (Anything {A = Ending}) (ending_of way)
  ending_keeps (Way.on locals) = tt
  ending_keeps (Way.out ending) = tt

  pub body_keeps : (stmts : List Stmt) (locals : Locals) → Keeps R R (Anything {A = Ending}) (body program stmts locals)
  body_keeps stmts locals =
      keeps-chain R R (Anything {A = Way}) (Anything {A = Ending}) (statements program stmts locals) ending_of (statements_keep stmts locals) (λ way ok. ending_keeps way)
