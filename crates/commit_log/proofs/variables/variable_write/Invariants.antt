use Rattle.std.proofs.Common.{◌≡◌, None}
use Rattle.nv_memory.specs.Logs.{seats_of}
use Rattle.nv_memory.specs.State.{first_undone, state}
use Rattle.tx_buffer.specs.Next.{changes_below}
use Rattle.commit_log.specs.Changes.{variable_changes}
use Rattle.commit_log.proofs.variables.variable_write.Given as goal

abbrev pub invariant-loop-i : goal.invariant-loop-i
invariant-loop-i l = first_undone (state l.image) (changes_below (variable_changes (state l.image) (seats_of l.log)) l.i) ≡ None
