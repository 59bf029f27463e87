-- A list of zeros holds nothing else.
use Rattle.std.proofs.Common.{◌≡◌, ℕ, zero, suc, refl}
use Rattle.std.specs.Prelude.{replicate, slice_index}

none-at : (count at : ℕ) → slice_index (replicate count 0) at ≡ 0
none-at zero at = refl
none-at (suc count) zero = refl
none-at (suc count) (suc at) = none-at count at

pub none-anywhere : (count : ℕ) → slice_index (replicate count 0) ≡ (λ at. 0)
none-anywhere count = λ i at. none-at count at i
