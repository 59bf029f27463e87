-- Words that are 0.
use Rattle.std.proofs.Common.{◌≡◌, ℕ, zero, suc, ◌+◌, ◌-◌, ◌<◌, List, [], ◌∷◌, ◌++◌, refl, arith, append_assoc}
use Rattle.std.specs.Prelude.{replicate, slice_index}
use Rattle.task_syntax.specs.Events.{blank_store}

-- one of those that are left is appended
pub zeros-more : (xs : List ℕ) (end counter : ℕ) → counter < end → (xs ++ 0 ∷ []) ++ replicate (end - (counter + 1)) 0 ≡ xs ++ replicate (end - counter) 0
zeros-more xs end counter below =
    let left : end - counter ≡ suc (end - (counter + 1)) = omega arith in
    rw (append_assoc, left) refl

zeros-at : (count word : ℕ) → slice_index (replicate count 0) word ≡ 0
zeros-at zero word = refl
zeros-at (suc count) zero = refl
zeros-at (suc count) (suc word) = zeros-at count word

-- words that are all 0 are the store for a top half
pub zeros-blank : (count : ℕ) → slice_index (replicate count 0) ≡ blank_store
zeros-blank count = λ i word. zeros-at count word i
