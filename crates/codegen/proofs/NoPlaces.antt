-- What it says that a rule is broken nowhere: that no part of what was found has a place.
use Rattle.std.proofs.Common.{◌≡◌, ℕ, ◌≤◌, List, [], ◌∷◌, arith}
use Rattle.std.specs.Prelude.{false, nat_lt, flat_map, All}
use Rattle.std.proofs.lemmas.Bool.Decides.{nat_tests}
use Rattle.std.proofs.lemmas.List.Elements.{All-nil, All-cons}
use Rattle.task_check.specs.Measures.{above}
use Rattle.task_check.proofs.NoPlaces.{first-empty, second-empty, test-fails}

-- of each of several
module _ {X A : Type 0} (found : X → List A) where
  pub none-each : (xs : List X) → flat_map found xs ≡ [] → All (λ x. found x ≡ []) xs
  none-each [] none = All-nil (λ x. found x ≡ [])
  none-each (x ∷ xs) none =
      All-cons (λ x. found x ≡ []) x xs (first-empty (found x) (flat_map found xs) none) (none-each xs (second-empty (found x) (flat_map found xs) none))

not_above : (bound number : ℕ) → nat_lt bound number ≡ false → number ≤ bound
not_above bound number is = grind (arith, nat_tests)

pub bound-holds : (bound number at : ℕ) → above bound number at ≡ [] → number ≤ bound
bound-holds bound number at none = not_above bound number (test-fails (nat_lt bound number) at none)
