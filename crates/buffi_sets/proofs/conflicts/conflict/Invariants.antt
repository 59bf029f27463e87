use Rattle.nv_memory.specs.Logs.{entry_log, number_in}
use Rattle.nv_memory.specs.StandsFor.{head_slot}
use Rattle.nv_memory.specs.State.{state}
use Rattle.buffi_sets.specs.Conflict.{is_shared_read}
use Rattle.buffi_sets.proofs.Least.{IsLeastOf}
use Rattle.buffi_sets.proofs.conflicts.conflict.Given as goal

abbrev pub invariant-loop-i : goal.invariant-loop-i
invariant-loop-i l =
    let s = state l.image in
    IsLeastOf (number_in s (entry_log (head_slot s))) (is_shared_read s l.attempt) l.i l.least
