-- Bounds of numbers that stand still at the greatest u32.
use Rattle.std.proofs.Common.{◌≡◌, ℕ, ◌+◌, refl, arith}
use Rattle.std.specs.Prelude.{max, nat_lt}
use Rattle.std.proofs.lemmas.Bool.Decides.{nat_tests}
use Rattle.task_syntax.specs.Saturated.{saturated}
use Rattle.task_check.specs.Measures.{above}

saturated-above : (n : ℕ) → nat_lt 32 (saturated n) ≡ nat_lt 32 n
saturated-above n = grind (arith, nat_tests)

pub above-saturated : (n at : ℕ) → above 32 (saturated n) at ≡ above 32 n at
above-saturated n at = rw (saturated-above n) refl

pub saturated-params : (a b : ℕ) → saturated (saturated a + b) ≡ saturated (a + b)
saturated-params a b = omega arith

pub saturated-max : (a b : ℕ) → max (saturated a) (saturated b) ≡ saturated (max a b)
saturated-max a b = omega arith

pub ruleset bounds = (above-saturated, saturated-params, saturated-max)
