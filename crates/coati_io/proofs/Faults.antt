-- When a count of faults rose.
use Rattle.std.proofs.Common.{◌≡◌, ℕ, ◌<◌, ◌≤◌, ◌⊎◌, ◌↔◌, arith}
use Rattle.coati_io.specs.Causes.{Rose}
use Rattle.coati_io.specs.Counts.{greatest_count}

-- a count of 64 bits is greater after the call than before it, or stands at its greatest
pub Rose-cases : (before after : ℕ) → after ≤ greatest_count → Rose before after ↔ ((before < after) ⊎ (after ≡ greatest_count))
Rose-cases before after fits = (λ rose. grind arith, λ either. grind arith)
