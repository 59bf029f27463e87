-- Sums over the first so many places, and what one change makes of them.
use Rattle.std.proofs.Common.{◌≡◌, ◌≢◌, ℕ, zero, suc, ◌+◌, ◌*◌, ◌<◌, ◌≤◌, refl, sym, arith, inl, inr}
use Rattle.std.proofs.lemmas.Bool.{cases_eq}
use Rattle.commit_log.specs.Left.{sum_below}

pub sum_same : (f g : ℕ → ℕ) (n : ℕ) → ((i : ℕ) → i < n → g i ≡ f i) → sum_below g n ≡ sum_below f n
sum_same f g zero same = refl
sum_same f g (suc n) same = rw (same n (omega arith), sum_same f g n (λ i l. same i (omega arith))) refl

-- by so much less at one place
pub sum_less : (f g : ℕ → ℕ) (n i less : ℕ) → i < n → g i + less ≡ f i → ((j : ℕ) → j < n → j ≢ i → g j ≡ f j)
    → sum_below g n + less ≡ sum_below f n
sum_less f g zero i less l here same = absurd (omega arith)
sum_less f g (suc n) i less l here same = elim (cases_eq i n) [
  | inl q ↦
      let rest = sum_same f g n (λ j h. same j (omega arith) (omega (arith, q, h))) in
      let last : g n + less ≡ f n = rw q at here in
      omega (arith, rest, last)
  | inr d ↦
      let rest = sum_less f g n i less (omega (arith, l, d)) here (λ j h k. same j (omega arith) k) in
      let last = same n (omega arith) (λ e. d (sym e)) in
      omega (arith, rest, last)
]

pub sum_bound : (f : ℕ → ℕ) (n most : ℕ) → ((i : ℕ) → f i ≤ most) → sum_below f n ≤ most * n
sum_bound f zero most low = omega arith
sum_bound f (suc n) most low =
    let here = low n in
    let rest = sum_bound f n most low in
    let more : most * suc n ≡ most + most * n = grind arith in
    omega (arith, here, rest, more)

-- a place is no more than the sum
pub sum_place : (f : ℕ → ℕ) (n i : ℕ) → i < n → f i ≤ sum_below f n
sum_place f zero i l = absurd (omega arith)
sum_place f (suc n) i l = elim (cases_eq i n) [
  | inl q ↦ rw q (omega arith)
  | inr d ↦ let rest = sum_place f n i (omega (arith, l, d)) in omega (arith, rest)
]
