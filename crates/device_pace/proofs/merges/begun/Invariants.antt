use Rattle.std.proofs.Common.{◌≡◌, ◌-◌}
use Rattle.nv_memory.specs.Logs.{length_in, task_log}
use Rattle.nv_memory.specs.State.{state}
use Rattle.commit_log.specs.Left.{begun, begun_from}
use Rattle.device_pace.proofs.merges.begun.Given as goal

abbrev pub invariant-loop-i : goal.invariant-loop-i
invariant-loop-i l =
    let s = state l.image in begun s ≡ begun_from s l.i (length_in s task_log - l.i)
