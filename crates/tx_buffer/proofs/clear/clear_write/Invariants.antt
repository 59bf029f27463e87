use Rattle.std.proofs.Common.{◌≡◌, None}
use Rattle.nv_memory.specs.Logs.{length_in, tx_log}
use Rattle.nv_memory.specs.State.{first_undone, state}
use Rattle.tx_buffer.specs.Clear.{unflag_changes}
use Rattle.tx_buffer.specs.Next.{changes_below}
use Rattle.tx_buffer.proofs.clear.clear_write.Given as goal

abbrev pub invariant-loop-word : goal.invariant-loop-word
invariant-loop-word l =
    (length_in (state l.image) tx_log ≡ 0) × (first_undone (state l.image) (changes_below unflag_changes l.word) ≡ None)
