use Rattle.std.proofs.Common.{◌≡◌, ◌+◌, ◌≤◌, ◌<◌}
use Rattle.coati_explain.specs.Spot.{spot_among, spot_at}
use Rattle.coati_explain.proofs.spot.spot_at.Given as goal

abbrev pub invariant-loop-line : goal.invariant-loop-line
invariant-loop-line l = record {
  left : spot_among l.passed l.number l.line-iterator l.left ≡ spot_at l.text l.fn.at;
  counted : l.number + l.left ≤ l.fn.at + 1;
  number : 0 < l.number;
  line : 0 < l.passed.line;
  column : 0 < l.passed.column;
}
