use Rattle.std.proofs.Common.{◌≡◌, ◌+◌, ◌<◌, ◌≤◌, length, drop}
use Rattle.std.specs.Prelude.{flat_map}
use Rattle.task_syntax.specs.Names.{tasks_of_unit}
use Rattle.task_syntax.specs.Units.{first_from, memberships}
use Rattle.task_check.specs.Counts.{transactions_of_unit}
use Rattle.task_check.proofs.lookups.first_of_tx.Given as goal

abbrev pub invariant-loop-unit : goal.invariant-loop-unit
invariant-loop-unit l = record {
  left : first_from l.tx l.first (memberships l.transactions (drop l.unit-index l.units)) ≡ first_from l.tx 0 (memberships 0 l.units);
  fits : l.first + length (flat_map tasks_of_unit (drop l.unit-index l.units)) ≡ length (flat_map tasks_of_unit l.units);
  ahead : l.transactions ≤ l.tx;
  within : l.tx < l.transactions + length (flat_map transactions_of_unit (drop l.unit-index l.units));
}
