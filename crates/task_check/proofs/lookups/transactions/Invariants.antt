use Rattle.std.proofs.Common.{◌≡◌, ◌+◌, length, drop}
use Rattle.std.specs.Prelude.{flat_map}
use Rattle.task_check.specs.Counts.{transactions_of_unit}
use Rattle.task_check.proofs.lookups.transactions.Given as goal

abbrev pub invariant-loop-unit : goal.invariant-loop-unit
invariant-loop-unit l = l.transactions + length (flat_map transactions_of_unit (drop l.unit-index l.units)) ≡ length (flat_map transactions_of_unit l.units)
