-- The code of each expression that fits, by induction on its tree.
use Rattle.std.proofs.Common.{◌≡◌, ℕ, ◌+◌, List, [], ◌∷◌, length, map, sym, subst}
use Rattle.std.specs.Prelude.{Bool, true, Option, max, sum}
use Rattle.std.proofs.lemmas.Bool.{and_parts}
use Rattle.std.proofs.lemmas.List.Sums.{sum_by-cons}
use Rattle.std.proofs.Math.Nat.{le-max_left, le-max_right}
use Rattle.task_syntax.specs.declared.program.Program.{Program}
use Rattle.task_syntax.specs.declared.expression.Expr.{Expr}
use Rattle.task_syntax.specs.declared.expression.Place.{Place}
use Rattle.task_syntax.specs.declared.expression.Expr as E
use Rattle.task_syntax.specs.declared.expression.Place as P
use Rattle.task_syntax.specs.ProgramLaws.{HasNoEmptyArray}
use Rattle.task_syntax.specs.Names.{words_of, word_count}
use Rattle.task_syntax.specs.Course.{Course}
use Rattle.task_syntax.specs.Cost.{expression_cost, expression_cost_step, index_cost, index_cost_step, store_cost, store_step, expressions_cost}
use Rattle.task_syntax.specs.Depth.{expression_depth, expression_depth_step, index_depth, index_depth_step}
use Rattle.task_syntax.specs.Expressions.{Locals, Aim, expression, expression_step, aim, aim_step, expressions}
use Rattle.word_code.specs.declared.instruction.Instr.{Instr}
use Rattle.codegen.specs.Scope.{Local}
use Rattle.codegen.specs.Templates.{PlaceCode, expression_code, expression_code_step, place_code, place_code_step, expressions_code}
use Rattle.codegen.specs.Fit.{Sparing, expression_names, expression_names_step, place_names, place_names_step, expression_spares_step, place_spares, place_spares_step, expressions_names}
use Rattle.codegen.proofs.Agreement.{names_of}
use Rattle.codegen.proofs.Operands.{Gives, number_gives, unary_gives, binary_gives}
use Rattle.codegen.proofs.Gives.{AllGive, none_give, more_give}
use Rattle.codegen.proofs.Variables.{Small, GoodPlace, plain_good, item_good, variable_stands}
use Rattle.task_syntax.proofs.Trees.{ExpressionCases, every_expression, every_place}

pub sum-cons : (first : ℕ) (more : List ℕ) → sum (first ∷ more) ≡ first + sum more
sum-cons first more = sum_by-cons (λ n. n) first more

module _ (words : List ℕ) (program : Program) (full : HasNoEmptyArray program) where
  abbrev count : ℕ
  count = word_count program.vars

  -- code whose names fit pushes the value
  abbrev GoodCode : (List (List ℕ) → Bool) → (List Local → List Instr) → ℕ → ℕ → (Locals → Course ℕ) → Type 0
  GoodCode names code depth cost course = (scope : List Local) → Small scope → names (names_of scope) ≡ true → Gives words count scope (code scope) depth cost course

  abbrev pub GoodExpression : Expr → Type 0
  GoodExpression e = GoodCode (expression_names program e) (expression_code program e) (expression_depth e) (expression_cost e) (expression program e)

  abbrev pub GoodPlaceOf : Place → Type 0
  GoodPlaceOf p = GoodPlace words count (place_names program p) (place_spares p) (index_depth p) (index_cost p) (store_cost program p) (place_code program p) (aim program p)

  layer : (x : E.Expr-F Expr Place) →
      GoodCode (expression_names_step program (E.map-Expr Expr Place (List (List ℕ) → Bool) (List (List ℕ) → Bool) (expression_names program) (place_names program) x))
      (expression_code_step program (E.map-Expr Expr Place (List Local → List Instr) (List Local → PlaceCode) (expression_code program) (place_code program) x))
      (expression_depth_step (E.map-Expr Expr Place ℕ (Option ℕ) expression_depth index_depth x))
      (expression_cost_step (E.map-Expr Expr Place ℕ ℕ expression_cost index_cost x))
      (expression_step program (E.map-Expr Expr Place (Locals → Course ℕ) (Locals → Course Aim) (expression program) (aim program) x)) →
      GoodExpression (E.roll-Expr x)
  layer x h = rw (
    E.fold-roll-Expr (List (List ℕ) → Bool) (List (List ℕ) → Bool) (expression_names_step program) (place_names_step program) x,
    E.fold-roll-Expr (List Local → List Instr) (List Local → PlaceCode) (expression_code_step program) (place_code_step program) x,
    E.fold-roll-Expr ℕ (Option ℕ) expression_depth_step index_depth_step x,
    E.fold-roll-Expr ℕ ℕ expression_cost_step index_cost_step x,
    E.fold-roll-Expr (Locals → Course ℕ) (Locals → Course Aim) (expression_step program) (aim_step program) x,
  ) h

  place_layer : (x : P.Place-F Expr Place) →
      GoodPlace words count (place_names_step program (P.map-Place Expr Place (List (List ℕ) → Bool) (List (List ℕ) → Bool) (expression_names program) (place_names program) x))
      (place_spares_step (P.map-Place Expr Place Sparing Sparing (E.fold-Expr Sparing Sparing expression_spares_step place_spares_step) place_spares x))
      (index_depth_step (P.map-Place Expr Place ℕ (Option ℕ) expression_depth index_depth x))
      (index_cost_step (P.map-Place Expr Place ℕ ℕ expression_cost index_cost x))
      (store_step program (P.map-Place Expr Place ℕ ℕ (E.fold-Expr ℕ ℕ expression_cost_step (store_step program)) (store_cost program) x))
      (place_code_step program (P.map-Place Expr Place (List Local → List Instr) (List Local → PlaceCode) (expression_code program) (place_code program) x))
      (aim_step program (P.map-Place Expr Place (Locals → Course ℕ) (Locals → Course Aim) (expression program) (aim program) x)) →
      GoodPlaceOf (P.roll-Place x)
  place_layer x h = rw (
    P.fold-roll-Place (List (List ℕ) → Bool) (List (List ℕ) → Bool) (expression_names_step program) (place_names_step program) x,
    P.fold-roll-Place Sparing Sparing expression_spares_step place_spares_step x,
    P.fold-roll-Place ℕ (Option ℕ) expression_depth_step index_depth_step x,
    P.fold-roll-Place ℕ ℕ expression_cost_step index_cost_step x,
    P.fold-roll-Place ℕ ℕ expression_cost_step (store_step program) x,
    P.fold-roll-Place (List Local → List Instr) (List Local → PlaceCode) (expression_code_step program) (place_code_step program) x,
    P.fold-roll-Place (Locals → Course ℕ) (Locals → Course Aim) (expression_step program) (aim_step program) x,
  ) h

  cases : ExpressionCases GoodExpression GoodPlaceOf
  cases = record {
    num = λ value. layer (E.Expr-F.Num value) (λ scope small fits. number_gives words count scope value);
    get = λ place good. layer (E.Expr-F.Get place) good.read;
    one = λ op operand good. layer (E.Expr-F.One op operand) (λ scope small fits. unary_gives words count scope op _ _ _ _ (good scope small fits));
    two = λ op left right good other. layer (E.Expr-F.Two op left right) (λ scope small fits.
        let f = and_parts (expression_names program left (names_of scope)) (expression_names program right (names_of scope)) fits in
        let a = expression_depth left in
        let b = expression_depth right in
        binary_gives words count scope op _ _ (max a (1 + b)) a b _ _ _ _ (le-max_left a (1 + b)) (le-max_right a (1 + b)) (good scope small f.0) (other scope small f.1));
    plain = λ name. place_layer (P.Place-F.Plain name) (plain_good words count name.text (words_of program name.text) (λ variable is. variable_stands program name.text variable full is));
    item = λ name index good. place_layer (P.Place-F.Item name index)
        (item_good words count name.text (words_of program name.text) _ _ _ _ _ _ (λ variable is. variable_stands program name.text variable full is) good);
  }

  pub good_expression : (e : Expr) → GoodExpression e
  good_expression = every_expression GoodExpression GoodPlaceOf cases

  pub good_place : (p : Place) → GoodPlaceOf p
  good_place = every_place GoodExpression GoodPlaceOf cases

  pub all_give : (es : List Expr) (scope : List Local) → Small scope → expressions_names program es (names_of scope) ≡ true →
      AllGive words count scope (expressions_code program es scope) (length es) (map expression_depth es) (expressions_cost es) (expressions program es)
  all_give [] scope small fits = none_give words count scope
  all_give (e ∷ es) scope small fits =
      let f = and_parts (expression_names program e (names_of scope)) (expressions_names program es (names_of scope)) fits in
      subst (λ cost. AllGive words count scope (expressions_code program (e ∷ es) scope) (length (e ∷ es)) (map expression_depth (e ∷ es)) cost (expressions program (e ∷ es)))
      (sym (sum-cons (expression_cost e) (map expression_cost es)))
      (more_give words count scope (expression_code program e scope) (expressions_code program es scope) (length es) (expression_depth e) (map expression_depth es)
      (expression_cost e) (expressions_cost es) (expression program e) (expressions program es) (good_expression e scope small f.0) (all_give es scope small f.1))
