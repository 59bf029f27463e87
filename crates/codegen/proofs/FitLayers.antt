-- What each layer of a tree keeps, and what it measures, in terms of its parts.
use Rattle.std.proofs.Common.{◌≡◌, ℕ, List, ap}
use Rattle.std.specs.Prelude.{Bool}
use Rattle.task_syntax.specs.declared.program.Program.{Program}
use Rattle.task_syntax.specs.declared.expression.Expr.{Expr}
use Rattle.task_syntax.specs.declared.expression.Place.{Place}
use Rattle.task_syntax.specs.declared.expression.Expr as E
use Rattle.task_syntax.specs.declared.expression.Place as P
use Rattle.task_syntax.specs.declared.statement.Stmt.{Stmt}
use Rattle.task_syntax.specs.declared.statement.Stmt as S
use Rattle.task_check.specs.Endings.{statement_ends, ends_step}
use Rattle.task_check.specs.Messages.{statement_gives, statement_gives_step}
use Rattle.codegen.specs.Fit.{Part, Sparing, expression_names, expression_names_step, place_names, place_names_step, statement_names, statement_names_step, expression_spares_step, place_spares, place_spares_step, statement_spares, statement_spares_step, statement_turns, statement_turns_step}

abbrev Named : Type 0
Named = List (List ℕ) → Bool

module _ (program : Program) where
  pub expression_names-layer : (x : E.Expr-F Expr Place) (known : List (List ℕ)) →
      expression_names program (E.roll-Expr x) known ≡ expression_names_step program (E.map-Expr Expr Place Named Named (expression_names program) (place_names program) x) known
  expression_names-layer x known = ap (λ (f : Named). f known) (E.fold-roll-Expr Named Named (expression_names_step program) (place_names_step program) x)

  pub place_names-layer : (x : P.Place-F Expr Place) (known : List (List ℕ)) →
      place_names program (P.roll-Place x) known ≡ place_names_step program (P.map-Place Expr Place Named Named (expression_names program) (place_names program) x) known
  place_names-layer x known = ap (λ (f : Named). f known) (P.fold-roll-Place Named Named (expression_names_step program) (place_names_step program) x)

  pub statement_names-layer : (x : S.Stmt-F Stmt) (known : List (List ℕ)) →
      statement_names program (S.roll-Stmt x) known ≡ statement_names_step program (S.map-Stmt Stmt Part (statement_names program) x) known
  statement_names-layer x known = ap (λ (f : Part). f known) (S.fold-roll-Stmt Part (statement_names_step program) x)

pub place_spares-layer : (x : P.Place-F Expr Place) (loops : List (List ℕ)) →
    place_spares (P.roll-Place x) loops ≡ place_spares_step (P.map-Place Expr Place Sparing Sparing (E.fold-Expr Sparing Sparing expression_spares_step place_spares_step) place_spares x) loops
place_spares-layer x loops = ap (λ (f : Sparing). f loops) (P.fold-roll-Place Sparing Sparing expression_spares_step place_spares_step x)

pub statement_spares-layer : (x : S.Stmt-F Stmt) (loops : List (List ℕ)) →
    statement_spares (S.roll-Stmt x) loops ≡ statement_spares_step (S.map-Stmt Stmt Sparing statement_spares x) loops
statement_spares-layer x loops = ap (λ (f : Sparing). f loops) (S.fold-roll-Stmt Sparing statement_spares_step x)

pub statement_turns-layer : (x : S.Stmt-F Stmt) → statement_turns (S.roll-Stmt x) ≡ statement_turns_step (S.map-Stmt Stmt Bool statement_turns x)
statement_turns-layer x = S.fold-roll-Stmt Bool statement_turns_step x

pub statement_gives-layer : (x : S.Stmt-F Stmt) → statement_gives (S.roll-Stmt x) ≡ statement_gives_step (S.map-Stmt Stmt Bool statement_gives x)
statement_gives-layer x = S.fold-roll-Stmt Bool statement_gives_step x

pub statement_ends-layer : (x : S.Stmt-F Stmt) → statement_ends (S.roll-Stmt x) ≡ ends_step (S.map-Stmt Stmt Bool statement_ends x)
statement_ends-layer x = S.fold-roll-Stmt Bool ends_step x

pub ruleset fit_layers = (expression_names-layer, place_names-layer, statement_names-layer, place_spares-layer, statement_spares-layer, statement_turns-layer, statement_gives-layer, statement_ends-layer)
