-- Turns of loops that keep the greatest of what they find.
use Rattle.std.proofs.Common.{◌≡◌, ◌∙◌, ℕ, ◌+◌, ◌<◌, ◌≤◌, List, [], ◌∷◌, length, drop, get_or, arith}
use Rattle.std.specs.Prelude.{max}
use Rattle.std.proofs.lemmas.List.{at_drop_more, at_drop_all}

-- a number of lists that is the greatest of what it is for their items
pub record IsGreatestOf {X : Type 0} (all : List X → ℕ) (each : X → ℕ) : Type 0 where
  pub empty : all [] ≡ 0
  pub cons : (x : X) (xs : List X) → all (x ∷ xs) ≡ max (each x) (all xs)

-- one step: what was found is joined with what is found here
step : (first rest both found here result whole : ℕ) → both ≡ max first rest → here ≡ first → result ≡ max found here → max found both ≡ whole → max result rest ≡ whole
step first rest both found here result whole joined is_here is_result before = omega (arith, joined, is_here, is_result, before)

-- one turn of a loop: `found` is the greatest for the items before
pub turn : {X : Type 0} (all : List X → ℕ) (each : X → ℕ) → IsGreatestOf all each → (xs : List X) (index : ℕ) (x : X) (found here result : ℕ) →
    index < length xs → x ≡ get_or xs index x → here ≡ each (get_or xs index x) → result ≡ max found here →
    max found (all (drop index xs)) ≡ all xs → max result (all (drop (index + 1) xs)) ≡ all xs
turn all each greatest xs index x found here result below item is_here is_result before =
    step (each (get_or xs index x)) (all (drop (index + 1) xs)) (all (drop index xs)) found here result (all xs)
    (at_drop_more all xs index x below ∙ greatest.cons (get_or xs index x) (drop (index + 1) xs)) is_here is_result before

-- the end of such a loop
pub ended : {X : Type 0} (all : List X → ℕ) (each : X → ℕ) → IsGreatestOf all each → (xs : List X) (index found : ℕ) →
    length xs ≤ index → max found (all (drop index xs)) ≡ all xs → found ≡ all xs
ended all each greatest xs index found past before =
    let nothing : all (drop index xs) ≡ 0 = at_drop_all all xs index past ∙ greatest.empty in
    omega (arith, nothing, before)
