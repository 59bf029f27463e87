-- Where no rule of names is broken, names that are used are known and names that are declared are new, layer by layer.
use Rattle.std.proofs.Common.{◌≡◌, ℕ, List, [], ◌∷◌, ◌++◌, refl, sym, subst}
use Rattle.std.specs.Prelude.{Bool, true, ◌&&◌, not, Option, Some, None, is_some}
use Rattle.std.proofs.lemmas.Bool.{and_from}
use Rattle.std.specs.List.{AllByRecursion}
use Rattle.task_syntax.specs.declared.name.Name.{Name}
use Rattle.task_syntax.specs.declared.program.Program.{Program}
use Rattle.task_syntax.specs.declared.expression.Expr.{Expr}
use Rattle.task_syntax.specs.declared.expression.Place.{Place}
use Rattle.task_syntax.specs.declared.expression.Expr as E
use Rattle.task_syntax.specs.declared.expression.Place as P
use Rattle.task_syntax.specs.declared.statement.Stmt.{Stmt}
use Rattle.task_syntax.specs.declared.statement.Stmt as S
use Rattle.task_syntax.specs.Names.{words_of, task_of}
use Rattle.task_check.specs.Scope.{Scope}
use Rattle.task_check.specs.Loops.{is_among}
use Rattle.task_check.specs.Mentions as rules
use Rattle.task_check.specs.Mentions.{Mention}
use Rattle.codegen.specs.Fit.{Passed, Part, expression_names, place_names, expressions_names, expression_names_step, place_names_step, statement_names, statement_names_step, statements_names}
use Rattle.codegen.proofs.Parted.{all-left, all-right}
use Rattle.codegen.proofs.ScopedNames.{IsFine, AllFine, AreKnown, one_more, new_local}
use Rattle.task_syntax.proofs.Trees.{ExpressionCases, every_expression, every_place, StatementCases, AllOtherwise, every_statement_of}

-- what some parts of a program mention
abbrev Names : Type 0
Names = Scope → List Mention

module _ (program : Program) where
  -- the names that a part uses are known, as far as the rules are kept
  abbrev AreUsed : (List (List ℕ) → Bool) → Names → Type 0
  AreUsed fits names = (scope : Scope) (known : List (List ℕ)) → AreKnown program scope known → AllFine (names scope) → fits known ≡ true

  both-used : (one other : List (List ℕ) → Bool) (first second : Names) → AreUsed one first → AreUsed other second →
      AreUsed (λ known. one known && other known) (λ scope. first scope ++ second scope)
  both-used one other first second used also scope known are fine =
      and_from (one known) (other known) (used scope known are (all-left IsFine (first scope) (second scope) fine)) (also scope known are (all-right IsFine (first scope) (second scope) fine))

  expression-rolled : (x : E.Expr-F Expr Place) →
      AreUsed (expression_names_step program (E.map-Expr Expr Place (List (List ℕ) → Bool) (List (List ℕ) → Bool) (expression_names program) (place_names program) x))
      (rules.expression_mentions_step (E.map-Expr Expr Place Names Names rules.expression_mentions rules.place_mentions x)) →
      AreUsed (expression_names program (E.roll-Expr x)) (rules.expression_mentions (E.roll-Expr x))
  expression-rolled x used =
      subst (λ fits. AreUsed fits (rules.expression_mentions (E.roll-Expr x))) (sym (E.fold-roll-Expr (List (List ℕ) → Bool) (List (List ℕ) → Bool) (expression_names_step program) (place_names_step program) x))
      (subst (λ names. AreUsed (expression_names_step program (E.map-Expr Expr Place (List (List ℕ) → Bool) (List (List ℕ) → Bool) (expression_names program) (place_names program) x)) names)
      (sym (E.fold-roll-Expr Names Names rules.expression_mentions_step rules.place_mentions_step x)) used)

  place-rolled : (x : P.Place-F Expr Place) →
      AreUsed (place_names_step program (P.map-Place Expr Place (List (List ℕ) → Bool) (List (List ℕ) → Bool) (expression_names program) (place_names program) x))
      (rules.place_mentions_step (P.map-Place Expr Place Names Names rules.expression_mentions rules.place_mentions x)) →
      AreUsed (place_names program (P.roll-Place x)) (rules.place_mentions (P.roll-Place x))
  place-rolled x used =
      subst (λ fits. AreUsed fits (rules.place_mentions (P.roll-Place x))) (sym (P.fold-roll-Place (List (List ℕ) → Bool) (List (List ℕ) → Bool) (expression_names_step program) (place_names_step program) x))
      (subst (λ names. AreUsed (place_names_step program (P.map-Place Expr Place (List (List ℕ) → Bool) (List (List ℕ) → Bool) (expression_names program) (place_names program) x)) names)
      (sym (P.fold-roll-Place Names Names rules.expression_mentions_step rules.place_mentions_step x)) used)

  abbrev IsKnownExpression : Expr → Type 0
  IsKnownExpression e = AreUsed (expression_names program e) (rules.expression_mentions e)

  abbrev IsKnownPlace : Place → Type 0
  IsKnownPlace place = AreUsed (place_names program place) (rules.place_mentions place)

  used_names : ExpressionCases IsKnownExpression IsKnownPlace
  used_names = record {
    num = λ value. expression-rolled (E.Expr-F.Num value) (λ scope known are fine. refl);
    get = λ place used. expression-rolled (E.Expr-F.Get place) used;
    one = λ op operand used. expression-rolled (E.Expr-F.One op operand) used;
    two = λ op left right used also. expression-rolled (E.Expr-F.Two op left right)
        (both-used (expression_names program left) (expression_names program right) (rules.expression_mentions left) (rules.expression_mentions right) used also);
    plain = λ name. place-rolled (P.Place-F.Plain name) (λ scope known are fine. are.tells.plain name fine);
    item = λ name index used. place-rolled (P.Place-F.Item name index) (λ scope known are fine.
        and_from (is_some (words_of program name.text)) (expression_names program index known) (are.tells.item name (fine.0, tt)) (used scope known are fine.1));
  }

  known-expression : (e : Expr) → IsKnownExpression e
  known-expression = every_expression IsKnownExpression IsKnownPlace used_names

  known-place : (place : Place) → IsKnownPlace place
  known-place = every_place IsKnownExpression IsKnownPlace used_names

  known-expressions : (es : List Expr) → AreUsed (expressions_names program es) (rules.expressions_mentions es)
  known-expressions [] = λ scope known are fine. refl
  known-expressions (first ∷ more) = both-used (expression_names program first) (expressions_names program more) (rules.expression_mentions first) (rules.expressions_mentions more)
      (known-expression first) (known-expressions more)

  -- a part fits behind these names, and leaves others that are known
  pub record Goes (passed : Passed) (scope : Scope) : Type 0 where
    pub fits : passed.fits ≡ true
    pub known : AreKnown program scope passed.known

  abbrev pub Follows : Part → rules.Part → Type 0
  Follows part mentioned = (scope : Scope) (known : List (List ℕ)) → AreKnown program scope known → AllFine (mentioned scope).mentions → Goes (part known) (mentioned scope).scope

  abbrev IsKnown : Stmt → Type 0
  IsKnown statement = Follows (statement_names program statement) (rules.statement_part statement)

  rolled : (x : S.Stmt-F Stmt) →
      Follows (statement_names_step program (S.map-Stmt Stmt Part (statement_names program) x)) (rules.statement_part_step (S.map-Stmt Stmt rules.Part rules.statement_part x)) →
      IsKnown (S.roll-Stmt x)
  rolled x follows =
      subst (λ part. Follows part (rules.statement_part (S.roll-Stmt x))) (sym (S.fold-roll-Stmt Part (statement_names_step program) x))
      (subst (λ mentioned. Follows (statement_names_step program (S.map-Stmt Stmt Part (statement_names program) x)) mentioned)
      (sym (S.fold-roll-Stmt rules.Part rules.statement_part_step x)) follows)

  known-block : (block : List Stmt) → AllByRecursion IsKnown block → Follows (statements_names program block) (rules.statements_part block)
  known-block [] each scope known are fine = record { fits = refl; known = are }
  known-block (first ∷ more) each scope known are fine =
      let here = rules.statement_part first scope in
      let rest = rules.statements_part more here.scope in
      let one = each.0 scope known are (all-left IsFine here.mentions rest.mentions fine) in
      let passed = statement_names program first known in
      let others = known-block more each.1 here.scope passed.known one.known (all-right IsFine here.mentions rest.mentions fine) in
      record { fits = and_from passed.fits (statements_names program more passed.known).fits one.fits others.fits; known = others.known }

  declared-known : (name : Name) (e : Expr) → IsKnown (S.roll-Stmt (S.Stmt-F.Let name e))
  declared-known name e = rolled (S.Stmt-F.Let name e) (λ scope known are fine.
      let names = rules.expression_mentions e scope in
      let new = (all-right IsFine names (rules.mention _ name scope ∷ []) fine).0.new in
      record {
        fits = and_from (expression_names program e known) (not (is_among known name.text)) (known-expression e scope known are (all-left IsFine names _ fine)) (new_local program scope known name.text new are);
        known = one_more program scope known name e new are;
      })

  used-known : (scope : Scope) (known : List (List ℕ)) (fits : Bool) → AreKnown program scope known → fits ≡ true → Goes (record { fits = fits; known = known }) scope
  used-known scope known fits are fit = record { fits = fit; known = are }

  assigned-known : (place : Place) (e : Expr) → IsKnown (S.roll-Stmt (S.Stmt-F.Assign place e))
  assigned-known place e = rolled (S.Stmt-F.Assign place e) (λ scope known are fine.
      used-known scope known (place_names program place known && expression_names program e known) are
      (both-used (place_names program place) (expression_names program e) (rules.place_mentions place) (rules.expression_mentions e) (known-place place) (known-expression e) scope known are fine))

  chosen-known : (condition : Expr) (block : List Stmt) (other : Option (List Stmt)) → AllByRecursion IsKnown block → AllOtherwise IsKnown other →
      IsKnown (S.roll-Stmt (S.Stmt-F.If condition block other))
  chosen-known condition block None each rest = rolled (S.Stmt-F.If condition block None) (λ scope known are fine.
      let names = rules.expression_mentions condition scope in
      let inner = (rules.statements_part block scope).mentions in
      let behind = all-right IsFine names (inner ++ []) fine in
      used-known scope known (expression_names program condition known && ((statements_names program block known).fits && true)) are
      (and_from (expression_names program condition known) ((statements_names program block known).fits && true) (known-expression condition scope known are (all-left IsFine names (inner ++ []) fine))
      (and_from (statements_names program block known).fits true (known-block block each scope known are (all-left IsFine inner [] behind)).fits refl)))
  chosen-known condition block (Some other) each rest = rolled (S.Stmt-F.If condition block (Some other)) (λ scope known are fine.
      let names = rules.expression_mentions condition scope in
      let inner = (rules.statements_part block scope).mentions in
      let others = (rules.statements_part other scope).mentions in
      let behind = all-right IsFine names (inner ++ others) fine in
      let one = (statements_names program block known).fits in
      let two = (statements_names program other known).fits in
      used-known scope known (expression_names program condition known && (one && two)) are
      (and_from (expression_names program condition known) (one && two) (known-expression condition scope known are (all-left IsFine names (inner ++ others) fine))
      (and_from one two (known-block block each scope known are (all-left IsFine inner others behind)).fits (known-block other rest scope known are (all-right IsFine inner others behind)).fits)))

  repeated-known : (name : Name) (count : ℕ) (block : List Stmt) → AllByRecursion IsKnown block → IsKnown (S.roll-Stmt (S.Stmt-F.Repeat name count block))
  repeated-known name count block each = rolled (S.Stmt-F.Repeat name count block) (λ scope known are fine.
      let new = fine.0.new in
      let inner = (statements_names program block (name.text ∷ known)).fits in
      used-known scope known (not (is_among known name.text) && inner) are
      (and_from (not (is_among known name.text)) inner (new_local program scope known name.text new are)
      (known-block block each _ (name.text ∷ known) (one_more program scope known name (E.roll-Expr (E.Expr-F.Num count)) new are) fine.1).fits))

  known_names : StatementCases IsKnown
  known_names = record {
    declared = declared-known;
    assigned = assigned-known;
    chosen = chosen-known;
    repeated = repeated-known;
    next = λ name. rolled (S.Stmt-F.Next name) (λ scope known are fine. used-known scope known (is_some (task_of program name.text)) are (are.tells.next name fine));
    halt = λ at. rolled (S.Stmt-F.Halt at) (λ scope known are fine. used-known scope known true are refl);
    give = λ es at. rolled (S.Stmt-F.Give es at) (λ scope known are fine. used-known scope known (expressions_names program es known) are (known-expressions es scope known are fine));
  }

  pub statements_known : (block : List Stmt) → Follows (statements_names program block) (rules.statements_part block)
  statements_known block = known-block block (every_statement_of IsKnown known_names block)
