-- The least of a list of places, which need not rise.
use Rattle.std.specs.Prelude.{ℕ, Bool, if◌then◌else◌, ◌≡◌, ◌≤◌, List, [], ◌∷◌, min, All, Contains, Option, Some, None}

-- a place is among them, and none is less
pub record IsLeast (places : List ℕ) (at : ℕ) : Type 0 where
  pub among : Contains places at
  pub least : All (λ place. at ≤ place) places

-- the least of them, where there is one
abbrev pub IsLeastOf : List ℕ → Option ℕ → Type 0
IsLeastOf places None = places ≡ []
IsLeastOf places (Some at) = IsLeast places at

-- the lesser of two places, of which there may be none
abbrev pub lesser : Option ℕ → Option ℕ → Option ℕ
lesser None other = other
lesser (Some at) None = Some at
lesser (Some at) (Some other) = Some (min at other)

-- the least of them, computed
abbrev pub least : List ℕ → Option ℕ
least [] = None
least (at ∷ more) = lesser (Some at) (least more)

-- the place, unless the test holds
abbrev pub unless : Bool → ℕ → List ℕ
unless holds at = if holds then [] else at ∷ []
