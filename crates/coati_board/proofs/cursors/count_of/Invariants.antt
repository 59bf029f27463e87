use Rattle.std.proofs.Common.{◌≡◌, ◌+◌, ◌≤◌, drop}
use Rattle.coati_device.specs.Cursors.{count_of}
use Rattle.coati_board.proofs.cursors.count_of.Given as goal

abbrev pub invariant-loop-posting : goal.invariant-loop-posting
invariant-loop-posting l =
    (l.count ≤ l.posting-index)
    × (l.count + count_of l.device (drop l.posting-index l.postings) ≡ count_of l.device
    l.postings)
