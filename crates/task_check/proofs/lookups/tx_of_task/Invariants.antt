use Rattle.std.proofs.Common.{◌≡◌, ◌+◌, length, drop}
use Rattle.std.specs.Prelude.{flat_map, slice_get}
use Rattle.task_syntax.specs.Units.{memberships}
use Rattle.task_check.specs.Counts.{transactions_of_unit}
use Rattle.task_check.proofs.lookups.tx_of_task.Given as goal

abbrev pub invariant-loop-unit : goal.invariant-loop-unit
invariant-loop-unit l = record {
  left : slice_get (memberships l.transactions (drop l.unit-index l.units)) l.left ≡ slice_get (memberships 0 l.units) l.task;
  fits : l.transactions + length (flat_map transactions_of_unit (drop l.unit-index l.units)) ≡ length (flat_map transactions_of_unit l.units);
}
