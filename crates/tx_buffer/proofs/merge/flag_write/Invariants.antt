use Rattle.std.proofs.Common.{◌≡◌, None}
use Rattle.nv_memory.specs.State.{first_undone, state}
use Rattle.tx_buffer.specs.Merge.{flag_changes}
use Rattle.tx_buffer.specs.Next.{changes_below}
use Rattle.tx_buffer.proofs.merge.flag_write.Given as goal

abbrev pub invariant-loop-word : goal.invariant-loop-word
invariant-loop-word l = first_undone (state l.image) (changes_below (flag_changes (state l.image)) l.word) ≡ None
