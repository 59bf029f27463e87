-- What it says that a rule has no place.
use Rattle.std.proofs.Common.{◌≡◌, ℕ, Bool, true, false, List, [], ◌∷◌, ◌++◌, map, refl}
use Rattle.std.specs.Prelude.{if◌then◌else◌}
use Rattle.task_check.specs.Least.{unless}

-- joined lists are empty where both are
pub first-empty : {X : Type 0} (xs ys : List X) → xs ++ ys ≡ [] → xs ≡ []
first-empty [] ys none = refl
first-empty (x ∷ xs) ys none = absurd cc

pub second-empty : {X : Type 0} (xs ys : List X) → xs ++ ys ≡ [] → ys ≡ []
second-empty [] ys none = none
second-empty (x ∷ xs) ys none = absurd cc

-- so is a list that is made item by item
pub none-mapped : {X Y : Type 0} (f : X → Y) (xs : List X) → map f xs ≡ [] → xs ≡ []
none-mapped f [] none = refl
none-mapped f (x ∷ xs) none = absurd cc

-- where a test decides whether there is something
pub test-fails : {X : Type 0} (holds : Bool) (x : X) → (if holds then x ∷ [] else []) ≡ [] → holds ≡ false
test-fails true x none = absurd cc
test-fails false x none = refl

-- a rule without a place holds
pub held : (holds : Bool) (at : ℕ) → unless holds at ≡ [] → holds ≡ true
held true at none = refl
held false at none = absurd cc
