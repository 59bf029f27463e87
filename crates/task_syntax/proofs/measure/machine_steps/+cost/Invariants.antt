use Rattle.std.proofs.Common.{◌≡◌, ◌+◌, ◌≤◌, drop}
use Rattle.task_syntax.specs.Saturated.{saturated}
use Rattle.task_syntax.specs.Cost.{statements_cost}
use Rattle.task_syntax.proofs.measure.machine_steps.+cost.Given as goal

abbrev pub invariant-statements_cost-loop-statement : goal.invariant-statements_cost-loop-statement
invariant-statements_cost-loop-statement l = record {
  left : saturated (l.sum + statements_cost l.program (drop l.statement-index l.body)) ≡ saturated (statements_cost l.program l.body);
  fits : l.sum ≤ 4294967295;
}
