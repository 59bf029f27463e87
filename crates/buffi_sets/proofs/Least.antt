-- The least of some numbers that a test takes.
use Rattle.std.proofs.Common.{◌≡◌, ℕ, ◌<◌, ◌≤◌, Option, Some, None, Bool, true, false}

-- the number is one of the first so many that the test takes, and the least of these
pub record IsLeast (number : ℕ → ℕ) (takes : ℕ → Bool) (count least : ℕ) : Type 0 where
  pub at : ℕ
  pub low : at < count
  pub is : number at ≡ least
  pub taken : takes least ≡ true
  pub least_of : (i : ℕ) → i < count → takes (number i) ≡ true → least ≤ number i

-- it is that number, or there is none
abbrev pub IsLeastOf : (ℕ → ℕ) → (ℕ → Bool) → ℕ → Option ℕ → Type 0
IsLeastOf number takes count None = (i : ℕ) → i < count → takes (number i) ≡ false
IsLeastOf number takes count (Some least) = IsLeast number takes count least
