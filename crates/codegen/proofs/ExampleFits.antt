-- A body that fits, and bodies that don't.
use Rattle.std.proofs.Common.{◌≡◌, List, [], ◌∷◌, arith}
use Rattle.std.specs.Prelude.{false, None, codes}
use Rattle.std.proofs.lemmas.List.Elements.{All-nil, All-cons}
use Rattle.coati_word.specs.declared.operator.Op.TheVariants as op
use Rattle.task_syntax.specs.declared.statement.Stmt.{Stmt}
use Rattle.task_syntax.specs.declared.body.Kind.TheVariants.{Task}
use Rattle.task_syntax.specs.ProgramLaws.{HasNoEmptyArray}
use Rattle.task_check.specs.Endings.{block_ends}
use Rattle.codegen.specs.Fit.{Fits, statements_names, statements_spare}
use Rattle.task_syntax.proofs.Built as build
use Rattle.task_syntax.proofs.MeasureLayers.{measure_layers}
use Rattle.task_syntax.proofs.Built.{plain, number, get, two, assign, item}
use Rattle.codegen.proofs.Examples.{counter, counts_to_three, n, i, x}
use Rattle.codegen.proofs.FitLayers.{fit_layers}

full : HasNoEmptyArray counter
full = search (All-cons, All-nil, arith)

-- `n = n + 1; if n < 3 { next main; } else { halt; }`
counting_fits : Fits counter Task [] counts_to_three
counting_fits = record {
  arrays = full;
  names = simp fit_layers;
  loops = simp fit_layers;
  turns = simp fit_layers;
  gives = simp fit_layers;
  ending = simp fit_layers;
  locals = simp measure_layers (omega arith);
  depth = simp measure_layers (omega arith);
  short = simp measure_layers (omega arith);
}

-- `repeat i < 3 { let x = a[i]; n = n + x; } halt;`
abbrev sums : List Stmt
sums = build.repeat i 3 (build.let' x (get (item (codes "a") (get (plain i)))) ∷ assign (plain n) (two op.Add (get (plain n)) (get (plain x))) ∷ []) ∷ build.halt ∷ []

loop_fits : Fits counter Task [] sums
loop_fits = record {
  arrays = full;
  names = simp fit_layers;
  loops = simp fit_layers;
  turns = simp fit_layers;
  gives = simp fit_layers;
  ending = simp fit_layers;
  locals = simp measure_layers (omega arith);
  depth = simp measure_layers (omega arith);
  short = simp measure_layers (omega arith);
}

-- `n = x;`, where no local x is in scope
unknown_name : (statements_names counter (assign (plain n) (get (plain x)) ∷ []) []).fits ≡ false
unknown_name = simp fit_layers

-- `let x = 1;`, where one is
name_in_scope : (statements_names counter (build.let' x (number 1) ∷ []) (x ∷ [])).fits ≡ false
name_in_scope = simp fit_layers

-- `repeat i < 3 { i = 0; }`
loop_assigned : statements_spare (build.repeat i 3 (assign (plain i) (number 0) ∷ []) ∷ []) [] ≡ false
loop_assigned = simp fit_layers

-- `if n { halt; }`
no_ending : block_ends (build.choose (get (plain n)) (build.halt ∷ []) None ∷ []) ≡ false
no_ending = simp fit_layers
