use Rattle.std.proofs.Common.{◌≡◌, ◌+◌, length, drop}
use Rattle.std.specs.Prelude.{flat_map}
use Rattle.task_syntax.specs.Names.{tasks_of_unit}
use Rattle.task_check.proofs.lookups.tasks.Given as goal

abbrev pub invariant-loop-unit : goal.invariant-loop-unit
invariant-loop-unit l = l.tasks + length (flat_map tasks_of_unit (drop l.unit-index l.units)) ≡ length (flat_map tasks_of_unit l.units)
