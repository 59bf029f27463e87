use Rattle.std.proofs.Common.{◌≡◌}
use Rattle.coati_explain.specs.Spot.{line_among, line_of}
use Rattle.coati_explain.proofs.spot.line_of.Given as goal

abbrev pub invariant-loop-line : goal.invariant-loop-line
invariant-loop-line l = line_among l.line-iterator l.left ≡ line_of l.text l.fn.number
