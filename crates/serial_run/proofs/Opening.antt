-- How many words there are at first.
use Rattle.std.proofs.Common.{◌≡◌, ◌≤◌, List, [], ◌∷◌, length, refl, arith, length-append}
use Rattle.std.specs.Prelude.{All}
use Rattle.std.specs.List.{flat_map}
use Rattle.std.proofs.lemmas.List.{length-replicate}
use Rattle.std.proofs.lemmas.List.Elements.{All-head, All-tail}
use Rattle.task_syntax.specs.declared.program.Var.{Var}
use Rattle.task_syntax.specs.Names.{count_of, first_values, given_values, word_count}
use Rattle.task_check.specs.Sizes.{GivenFits}

pub opening-count : (vars : List Var) → All GivenFits vars → length (flat_map first_values vars) ≡ word_count vars
opening-count [] all = refl
opening-count (var ∷ vars) all =
    let here : length (given_values var.init) ≤ count_of var.length = All-head GivenFits var vars all in
    let rest = opening-count vars (All-tail GivenFits var vars all) in
    simp (length-append, length-replicate) (omega (arith, here, rest))
