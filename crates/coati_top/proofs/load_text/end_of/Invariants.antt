use Rattle.std.proofs.Common.{◌≡◌, drop}
use Rattle.coati_board.specs.Board.{end_of}
use Rattle.coati_top.proofs.load_text.end_of.Given as goal

abbrev pub invariant-loop-mark : goal.invariant-loop-mark
invariant-loop-mark l = end_of (drop l.mark-index l.marks) ≡ end_of l.marks
