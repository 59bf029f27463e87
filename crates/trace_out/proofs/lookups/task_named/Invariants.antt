use Rattle.std.proofs.Common.{◌≡◌, ◌+◌, length, drop}
use Rattle.std.specs.Prelude.{flat_map}
use Rattle.task_syntax.specs.Names.{task_from, tasks_of_unit}
use Rattle.trace_out.proofs.lookups.task_named.Given as goal

abbrev pub invariant-loop-unit : goal.invariant-loop-unit
invariant-loop-unit l = record {
  left : task_from l.first (flat_map tasks_of_unit (drop l.unit-index l.units)) l.name
      ≡ task_from 0 (flat_map tasks_of_unit l.units) l.name;
  fits : l.first + length (flat_map tasks_of_unit (drop l.unit-index l.units)) ≡ length
      (flat_map tasks_of_unit l.units);
}
