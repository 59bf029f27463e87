-- The product that gives a power period is a small number.
use Rattle.std.proofs.Common.{ℕ, ◌*◌, ◌≤◌, arith}
use Rattle.std.proofs.Math.Nat.{mul-le-mul}

pub period_within : (factor bound : ℕ) → factor ≤ 35 → bound ≤ 110000 → factor * bound ≤ 3850000
period_within factor bound few small =
    let most : factor * bound ≤ 35 * 110000 = mul-le-mul few small in
    omega (arith, most)
