-- The measures of small bodies, worked out by hand.
use Rattle.std.proofs.Common.{◌≡◌, ℕ, List, [], ◌∷◌}
use Rattle.std.specs.Prelude.{codes}
use Rattle.task_syntax.specs.declared.body.Kind.TheVariants.{Task}
use Rattle.task_syntax.specs.declared.statement.Stmt.{Stmt}
use Rattle.task_syntax.specs.Cost.{body_cost}
use Rattle.task_syntax.specs.CodeWords.{body_words}
use Rattle.task_syntax.specs.LocalCount.{local_count}
use Rattle.task_syntax.specs.Depth.{body_depth}
use Rattle.task_syntax.proofs.Built as build
use Rattle.task_syntax.proofs.Built.{plain, number, assign}
use Rattle.task_syntax.proofs.Examples.{counter, counts_to_three}
use Rattle.task_syntax.proofs.MeasureLayers.{measure_layers}

cost_of_counting : body_cost counter counts_to_three Task ≡ 12
cost_of_counting = simp measure_layers

-- `loadv`, `push`, `add` and `storev` are 7 words; the condition 5, `jumpz` 2, `next` 2, `jump` 2 and `halt` 1
words_of_counting : body_words counts_to_three Task ≡ 19
words_of_counting = simp measure_layers

locals_of_counting : local_count counts_to_three 0 ≡ 0
locals_of_counting = simp measure_layers

-- n stays below the number that is added to it
depth_of_counting : body_depth counts_to_three ≡ 2
depth_of_counting = simp measure_layers

abbrev sets : Stmt
sets = assign (plain (codes "n")) (number 1)

-- `repeat i < count { }`
abbrev idles : ℕ → Stmt
idles count = build.repeat (codes "i") count []

-- `n = 1; n = 1; repeat i < 5554 { } halt;`: two stores of 1 + 3 steps, 2 + 5554 * 9 + 4 of the loop, and 1
abbrev too_long : List Stmt
too_long = sets ∷ sets ∷ idles 5554 ∷ build.halt ∷ []

cost_too_long : body_cost counter too_long Task ≡ 50001
cost_too_long = simp measure_layers

words_of_a_loop : body_words too_long Task ≡ 29
words_of_a_loop = simp measure_layers

locals_of_a_loop : local_count too_long 0 ≡ 1
locals_of_a_loop = simp measure_layers

depth_of_a_loop : body_depth too_long ≡ 2
depth_of_a_loop = simp measure_layers

-- `n = 1; n = 1; n = 1; n = 1; repeat i < 5553 { } halt;`: four stores, 2 + 5553 * 9 + 4 and 1
cost_just_right : body_cost counter (sets ∷ sets ∷ sets ∷ sets ∷ idles 5553 ∷ build.halt ∷ []) Task ≡ 50000
cost_just_right = simp measure_layers
