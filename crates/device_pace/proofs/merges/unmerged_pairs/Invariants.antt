use Rattle.std.proofs.Common.{◌≡◌, ◌≤◌, ◌*◌}
use Rattle.nv_memory.specs.State.{state}
use Rattle.commit_log.specs.Left.{sum_below, unmerged}
use Rattle.device_pace.proofs.merges.unmerged_pairs.Given as goal

abbrev pub invariant-loop-i : goal.invariant-loop-i
invariant-loop-i l = (l.count ≡ sum_below (unmerged (state l.image)) l.i) × (l.count ≤ 3 * l.i)
