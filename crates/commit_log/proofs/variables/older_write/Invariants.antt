use Rattle.std.proofs.Common.{◌≡◌, None}
use Rattle.nv_memory.specs.State.{first_undone, state}
use Rattle.tx_buffer.specs.Next.{changes_below}
use Rattle.commit_log.specs.Changes.{older_changes}
use Rattle.commit_log.proofs.variables.older_write.Given as goal

abbrev pub invariant-loop-i : goal.invariant-loop-i
invariant-loop-i l = first_undone (state l.image) (changes_below (older_changes (state l.image)) l.i) ≡ None
