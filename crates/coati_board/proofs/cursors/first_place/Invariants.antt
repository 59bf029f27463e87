use Rattle.std.proofs.Common.{◌≡◌, drop}
use Rattle.coati_board.specs.Cursors.{first_place}
use Rattle.coati_board.proofs.cursors.first_place.Given as goal

abbrev pub invariant-loop-cursor : goal.invariant-loop-cursor
invariant-loop-cursor l =
    first_place (drop l.cursor-index l.cursors) l.least ≡ first_place l.cursors l.fn.end
