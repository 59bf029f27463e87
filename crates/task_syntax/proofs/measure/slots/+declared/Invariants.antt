use Rattle.std.proofs.Common.{◌≡◌, ◌+◌, ◌≤◌, drop}
use Rattle.task_syntax.specs.Saturated.{saturated}
use Rattle.task_syntax.specs.LocalCount.{declared_counts}
use Rattle.task_syntax.proofs.measure.slots.+declared.Given as goal

abbrev pub invariant-declared_in_all-loop-statement : goal.invariant-declared_in_all-loop-statement
invariant-declared_in_all-loop-statement l = record {
  left : saturated (l.sum + declared_counts (drop l.statement-index l.body)) ≡ saturated (declared_counts l.body);
  fits : l.sum ≤ 4294967295;
}
