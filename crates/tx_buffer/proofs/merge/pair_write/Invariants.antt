use Rattle.std.proofs.Common.{◌≡◌, None}
use Rattle.nv_memory.specs.State.{first_undone, state}
use Rattle.tx_buffer.specs.Merge.{pair_changes}
use Rattle.tx_buffer.specs.Next.{changes_below}
use Rattle.tx_buffer.proofs.merge.pair_write.Given as goal

abbrev pub invariant-loop-i : goal.invariant-loop-i
invariant-loop-i l = first_undone (state l.image) (changes_below (pair_changes (state l.image)) l.i) ≡ None
