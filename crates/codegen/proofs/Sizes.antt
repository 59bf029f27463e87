-- The code of a body has the words that were counted.
use Rattle.std.proofs.Common.{◌≡◌, ℕ, ◌+◌, List, [], ◌∷◌, ◌++◌, length, map, refl, arith}
use Rattle.std.specs.Prelude.{Option, Some, None}
use Rattle.std.specs.List.{AllByRecursion}
use Rattle.task_syntax.specs.declared.name.Name.{Name}
use Rattle.task_syntax.specs.declared.program.Program.{Program}
use Rattle.task_syntax.specs.declared.expression.Expr.{Expr}
use Rattle.task_syntax.specs.declared.expression.Place.{Place}
use Rattle.task_syntax.specs.declared.expression.Expr as E
use Rattle.task_syntax.specs.declared.expression.Place as P
use Rattle.task_syntax.specs.declared.statement.Stmt.{Stmt}
use Rattle.task_syntax.specs.declared.statement.Stmt as S
use Rattle.task_syntax.specs.declared.body.Kind.{Kind}
use Rattle.task_syntax.specs.declared.body.Kind.TheVariants.{Task, Top, Bottom}
use Rattle.task_syntax.specs.Cost.{end_cost}
use Rattle.task_syntax.specs.CodeWords as counted
use Rattle.task_syntax.specs.CodeWords.{expression_words, expression_words_step, access_words, access_words_step, expressions_words, statement_words, statement_words_step, statements_words}
use Rattle.task_syntax.specs.Names.{Words, words_of}
use Rattle.word_code.specs.declared.instruction.Instr.{Instr}
use Rattle.word_code.specs.declared.instruction.Instr.TheVariants as instr
use Rattle.word_code.specs.Instruction.{width}
use Rattle.codegen.specs.Code.{size, head_code, turn_code, end_of}
use Rattle.codegen.specs.Code as code
use Rattle.codegen.specs.Scope.{Local, Scope, slot_of, declare, declare_all, no_scope, behind_block}
use Rattle.codegen.specs.Templates.{PlaceCode, Template, plain_code, item_code, expression_code, expression_code_step, place_code, place_code_step, expressions_code, statement_code, statement_code_step, statements_code, body_code, body_words, end_code}
use Rattle.codegen.proofs.Placed.{size-append, length-words_of}
use Rattle.codegen.proofs.Fitting.{sum-cons}
use Rattle.task_syntax.proofs.Trees.{ExpressionCases, every_expression, every_place, StatementCases, AllOtherwise, every_statement, every_statement_of}

-- the index of a place and what loads or stores it have so many words
pub record HasAccess (place : PlaceCode) (words : ℕ) : Type 0 where
  pub load : size place.index + width place.load ≡ words
  pub store : size place.index + width place.store ≡ words

plain_access : (found : Option Words) (slot : Option ℕ) → HasAccess (plain_code found slot) 2
plain_access None slot = record { load = refl; store = refl }
plain_access (Some variable) slot = record { load = refl; store = refl }

item_access : (index : List Instr) (found : Option Words) (words : ℕ) → size index ≡ words → HasAccess (item_code index found) (words + 3)
item_access index None words is = record { load = omega (arith, is); store = omega (arith, is) }
item_access index (Some variable) words is = record { load = omega (arith, is); store = omega (arith, is) }

module _ (program : Program) where
  abbrev SizeOf : (List Local → List Instr) → ℕ → Type 0
  SizeOf code words = (locals : List Local) → size (code locals) ≡ words

  abbrev ExpressionSize : Expr → Type 0
  ExpressionSize e = SizeOf (expression_code program e) (expression_words e)

  abbrev AccessSize : (List Local → PlaceCode) → ℕ → Type 0
  AccessSize code words = (locals : List Local) → HasAccess (code locals) words

  abbrev PlaceSize : Place → Type 0
  PlaceSize p = AccessSize (place_code program p) (access_words p)

  layer : (x : E.Expr-F Expr Place) →
      SizeOf (expression_code_step program (E.map-Expr Expr Place (List Local → List Instr) (List Local → PlaceCode) (expression_code program) (place_code program) x))
      (expression_words_step (E.map-Expr Expr Place ℕ ℕ expression_words access_words x)) →
      ExpressionSize (E.roll-Expr x)
  layer x h = rw (
    E.fold-roll-Expr (List Local → List Instr) (List Local → PlaceCode) (expression_code_step program) (place_code_step program) x,
    E.fold-roll-Expr ℕ ℕ expression_words_step access_words_step x,
  ) h

  place_layer : (x : P.Place-F Expr Place) →
      AccessSize (place_code_step program (P.map-Place Expr Place (List Local → List Instr) (List Local → PlaceCode) (expression_code program) (place_code program) x))
      (access_words_step (P.map-Place Expr Place ℕ ℕ expression_words access_words x)) →
      PlaceSize (P.roll-Place x)
  place_layer x h = rw (
    P.fold-roll-Place (List Local → List Instr) (List Local → PlaceCode) (expression_code_step program) (place_code_step program) x,
    P.fold-roll-Place ℕ ℕ expression_words_step access_words_step x,
  ) h

  cases : ExpressionCases ExpressionSize PlaceSize
  cases = record {
    num = λ value. layer (E.Expr-F.Num value) (λ locals. refl);
    get = λ place is. layer (E.Expr-F.Get place) (λ locals.
        let access = is locals in
        let load = access.load in
        omega (arith, size-append (place_code program place locals).index ((place_code program place locals).load ∷ []), load));
    one = λ op operand is. layer (E.Expr-F.One op operand) (λ locals. omega (arith, size-append (expression_code program operand locals) (instr.One op ∷ []), is locals));
    two = λ op left right is same. layer (E.Expr-F.Two op left right) (λ locals.
        let a = expression_code program left locals in
        let b = expression_code program right locals in
        omega (arith, size-append a (b ++ instr.Two op ∷ []), size-append b (instr.Two op ∷ []), is locals, same locals));
    plain = λ name. place_layer (P.Place-F.Plain name) (λ locals. plain_access (words_of program name.text) (slot_of locals name.text));
    item = λ name index is. place_layer (P.Place-F.Item name index) (λ locals. item_access (expression_code program index locals) (words_of program name.text) (expression_words index) (is locals));
  }

  pub expression_size : (e : Expr) → ExpressionSize e
  expression_size = every_expression ExpressionSize PlaceSize cases

  place_size : (p : Place) → PlaceSize p
  place_size = every_place ExpressionSize PlaceSize cases

  expressions_size : (es : List Expr) → SizeOf (expressions_code program es) (expressions_words es)
  expressions_size [] locals = refl
  expressions_size (e ∷ es) locals =
      omega (arith, size-append (expression_code program e locals) (expressions_code program es locals), expression_size e locals, expressions_size es locals, sum-cons (expression_words e) (map expression_words es))

  abbrev TemplateSize : Template → ℕ → Type 0
  TemplateSize template words = (scope : Scope) (at : ℕ) → size ((template scope).code at) ≡ words

  abbrev StatementSize : Stmt → Type 0
  StatementSize s = TemplateSize (statement_code program s) (statement_words s)

  statement_layer : (x : S.Stmt-F Stmt) →
      TemplateSize (statement_code_step program (S.map-Stmt Stmt Template (statement_code program) x)) (statement_words_step (S.map-Stmt Stmt ℕ statement_words x)) → StatementSize (S.roll-Stmt x)
  statement_layer x h = rw (S.fold-roll-Stmt Template (statement_code_step program) x, S.fold-roll-Stmt ℕ statement_words_step x) h

  block_size : (block : List Stmt) → AllByRecursion StatementSize block → TemplateSize (statements_code program block) (statements_words block)
  block_size [] all scope at = refl
  block_size (s ∷ more) all scope at =
      let first = (statement_code program s scope).code at in
      let behind = (statement_code program s scope).behind in
      omega (arith, size-append first ((statements_code program more behind).code (at + size first)), all.0 scope at, block_size more all.1 behind (at + size first), sum-cons (statement_words s) (map statement_words more))

  chosen_size : (condition : Expr) (block : List Stmt) (other : Option (List Stmt)) → AllByRecursion StatementSize block → AllOtherwise StatementSize other →
      StatementSize (S.roll-Stmt (S.Stmt-F.If condition block other))
  chosen_size condition block None all rest = statement_layer (S.Stmt-F.If condition block None) (λ scope at.
      let test = expression_code program condition scope.locals in
      let q = at + size test in
      let inner = statements_code program block scope in
      omega (arith, size-append test (code.when_code inner.code q), expression_size condition scope.locals, block_size block all scope (q + 2)))
  chosen_size condition block (Some other) all rest = statement_layer (S.Stmt-F.If condition block (Some other)) (λ scope at.
      let test = expression_code program condition scope.locals in
      let q = at + size test in
      let inner = statements_code program block scope in
      let scope2 = behind_block scope inner.behind in
      let second = statements_code program other scope2 in
      let there = code.other_at inner.code q in
      omega (
        arith,
        size-append test (code.either_code inner.code second.code q),
        size-append (inner.code (q + 2)) (instr.Jump (end_of second.code there) ∷ second.code there),
        expression_size condition scope.locals,
        block_size block all scope (q + 2),
        block_size other rest scope2 there,
      ))

  statement_cases : StatementCases StatementSize
  statement_cases = record {
    declared = λ name e. statement_layer (S.Stmt-F.Let name e) (λ scope at.
        omega (arith, size-append (expression_code program e scope.locals) (instr.SetL scope.next ∷ []), expression_size e scope.locals));
    assigned = λ place e. statement_layer (S.Stmt-F.Assign place e) (λ scope at.
        let there = place_code program place scope.locals in
        let value = expression_code program e scope.locals in
        let access = place_size place scope.locals in
        let store = access.store in
        omega (arith, size-append there.index (value ++ there.store ∷ []), size-append value (there.store ∷ []), store, expression_size e scope.locals));
    chosen = chosen_size;
    repeated = λ name most block all. statement_layer (S.Stmt-F.Repeat name most block) (λ scope at.
        let inner = statements_code program block (declare name.text scope) in
        omega (arith, size-append (inner.code (at + 11)) (turn_code scope.next (at + 4)), block_size block all (declare name.text scope) (at + 11)));
    next = λ name. statement_layer (S.Stmt-F.Next name) (λ scope at. refl);
    halt = λ at. statement_layer (S.Stmt-F.Halt at) (λ scope at. refl);
    give = λ es at. statement_layer (S.Stmt-F.Give es at) (λ scope at.
        omega (arith, size-append (expressions_code program es scope.locals) (instr.Give (length es) ∷ []), expressions_size es scope.locals));
  }

  pub statement_size : (s : Stmt) → StatementSize s
  statement_size = every_statement StatementSize statement_cases

  pub statements_size : (block : List Stmt) → TemplateSize (statements_code program block) (statements_words block)
  statements_size block = block_size block (every_statement_of StatementSize statement_cases block)

  end_size : (kind : Kind) → size (end_code kind) ≡ end_cost kind
  end_size Task = refl
  end_size Top = refl
  end_size Bottom = refl

  pub has_its_words : (kind : Kind) (params : List Name) (stmts : List Stmt) → length (body_words program kind params stmts) ≡ counted.body_words stmts kind
  has_its_words kind params stmts =
      let scope = declare_all params no_scope in
      omega (arith, length-words_of (body_code program kind params stmts), size-append ((statements_code program stmts scope).code 0) (end_code kind), statements_size stmts scope 0, end_size kind)
