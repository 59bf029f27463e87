use Rattle.std.proofs.Common.{◌≡◌, ◌≤◌, drop, map}
use Rattle.std.specs.Prelude.{max}
use Rattle.task_syntax.specs.Saturated.{saturated}
use Rattle.task_syntax.specs.Depth.{expression_depth, stacked}
use Rattle.task_syntax.proofs.measure.operands.stacked.Given as goal

abbrev pub invariant-loop-value : goal.invariant-loop-value
invariant-loop-value l = record {
  left : saturated (max l.greatest (stacked l.value-index (map expression_depth (drop l.value-index l.values)))) ≡ saturated (stacked 0 (map expression_depth l.values));
  below : l.below ≡ saturated l.value-index;
  fits : l.greatest ≤ 4294967295;
}
