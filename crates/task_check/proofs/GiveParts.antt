-- Messages of another count, of a statement by itself and in its blocks.
use Rattle.std.proofs.Common.{ℕ, refl}
use Rattle.task_check.specs.Gives.{misgiven_step}
use Rattle.task_check.proofs.WithinParts.{Divides}

pub of_gives : (count : ℕ) → Divides (misgiven_step count)
of_gives count = record { chosen = λ condition block other. refl; repeated = λ name times block. refl }
