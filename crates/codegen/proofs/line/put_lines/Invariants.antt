use Rattle.std.proofs.Common.{◌≡◌, ◌-◌, ◌≤◌, ◌++◌, drop, length}
use Rattle.codegen.specs.Listing.{lines_from}
use Rattle.codegen.proofs.line.put_lines.Given as goal

abbrev pub invariant-loop-at : goal.invariant-loop-at
invariant-loop-at l = record {
  lines : l.out.items ++ lines_from l.at 0 (drop l.at l.words) ≡ l.initial.out.items ++ lines_from 0 0 l.words;
  within : l.at ≤ length l.words;
}

abbrev pub decreases-loop-at : goal.decreases-loop-at
decreases-loop-at l = length l.words - l.at
