use Rattle.std.proofs.Common.{ℕ, ◌≤◌, ◌<◌}
use Rattle.std.specs.Prelude.{Contains, slice_index}
use Rattle.coati_replay.proofs.least.is_least_common.Given as goal

abbrev pub invariant-loop-other : goal.invariant-loop-other
invariant-loop-other l = (at : ℕ) → at < l.other-index → Contains l.right (slice_index l.left at) → l.number ≤ slice_index l.left at
