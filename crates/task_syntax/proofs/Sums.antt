-- Sums that stand still at the greatest u32.
use Rattle.std.proofs.Common.{◌≡◌, ℕ, ◌+◌, arith}
use Rattle.task_syntax.specs.Saturated.{saturated}

pub saturating_sum : (a b : ℕ) → saturated (saturated a + saturated b) ≡ saturated (a + b)
saturating_sum a b = omega arith

pub ruleset saturating = (saturating_sum)
