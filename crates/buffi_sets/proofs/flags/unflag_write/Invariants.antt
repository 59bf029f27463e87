use Rattle.std.proofs.Common.{◌≡◌, None}
use Rattle.nv_memory.specs.State.{first_undone, state}
use Rattle.tx_buffer.specs.Next.{changes_below}
use Rattle.buffi_sets.proofs.Unflagging.{each}
use Rattle.buffi_sets.proofs.flags.unflag_write.Given as goal

abbrev pub invariant-loop-word : goal.invariant-loop-word
invariant-loop-word l = first_undone (state l.image) (changes_below each l.word) ≡ None
