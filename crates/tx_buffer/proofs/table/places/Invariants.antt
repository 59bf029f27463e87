use Rattle.std.proofs.Common.{ℕ, ◌≡◌, ◌<◌, Some, slice_get, length}
use Rattle.nv_memory.specs.Logs.{index_of, number_in, seats_of}
use Rattle.nv_memory.specs.State.{state}
use Rattle.tx_buffer.proofs.table.places.Given as goal

abbrev pub invariant-loop-i : goal.invariant-loop-i
invariant-loop-i l =
    (length l.places ≡ 256)
    × ((word : ℕ) → word < 256 → slice_get l.places word ≡ Some (index_of (number_in (state l.image) (seats_of l.log)) l.i word))
