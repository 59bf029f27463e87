use Rattle.std.proofs.Common.{drop}
use Rattle.coati_top.proofs.Tallies.{IsTally}
use Rattle.coati_top.proofs.tally.tally_of.Given as goal

abbrev pub invariant-loop-mark : goal.invariant-loop-mark
invariant-loop-mark l = IsTally l.tally (drop l.mark-index l.marks) l.marks
