use Rattle.std.proofs.Common.{◌≡◌, ◌+◌, ◌≤◌, drop}
use Rattle.task_syntax.specs.Saturated.{saturated}
use Rattle.task_syntax.specs.Cost.{expressions_cost}
use Rattle.task_syntax.proofs.measure.machine_steps.expressions_cost.Given as goal

abbrev pub invariant-loop-value : goal.invariant-loop-value
invariant-loop-value l = record {
  left : saturated (l.sum + expressions_cost (drop l.value-index l.values)) ≡ saturated (expressions_cost l.values);
  fits : l.sum ≤ 4294967295;
}
