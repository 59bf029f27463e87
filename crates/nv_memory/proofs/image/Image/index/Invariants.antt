use Rattle.std.proofs.Common.{◌≡◌, ◌≤◌}
use Rattle.nv_memory.specs.Logs.{index_of, log_index, log_length, number_in, seats_of}
use Rattle.nv_memory.specs.State.{state}
use Rattle.nv_memory.proofs.image.Image.index.Given as goal

abbrev pub invariant-loop-i : goal.invariant-loop-i
invariant-loop-i l =
    (l.i ≤ log_length (state l.self) l.log)
    × (log_index (state l.self) l.log l.word ≡ index_of (number_in (state l.self) (seats_of l.log)) l.i l.word)

abbrev pub decreases-loop-i : goal.decreases-loop-i
decreases-loop-i l = l.i
