use Rattle.std.proofs.Common.{◌≡◌, ◌+◌, ◌≤◌, ◌-◌, drop, length}
use Rattle.coati_device.specs.Cursors.{others}
use Rattle.coati_board.proofs.cursors.next_place.Given as goal

abbrev pub invariant-loop-place : goal.invariant-loop-place
invariant-loop-place l =
    (l.place ≤ length l.postings)
    × (l.place + others l.device (drop l.place l.postings) ≡ l.fn.from + others l.fn.device
    (drop l.fn.from l.fn.postings))

abbrev pub decreases-loop-place : goal.decreases-loop-place
decreases-loop-place l = length l.postings - l.place
