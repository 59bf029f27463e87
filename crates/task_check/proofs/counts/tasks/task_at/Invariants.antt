use Rattle.std.proofs.Common.{◌≡◌, drop}
use Rattle.std.specs.Prelude.{flat_map, slice_get}
use Rattle.task_syntax.specs.Names.{tasks, tasks_of_unit}
use Rattle.task_check.proofs.counts.tasks.task_at.Given as goal

abbrev pub invariant-loop-unit : goal.invariant-loop-unit
invariant-loop-unit l = slice_get (flat_map tasks_of_unit (drop l.unit-index l.program.units)) l.left ≡ slice_get (tasks l.program) l.number
