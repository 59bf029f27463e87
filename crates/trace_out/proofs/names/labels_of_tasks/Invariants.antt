use Rattle.std.proofs.Common.{◌≡◌, ◌++◌, drop, map}
use Rattle.std.specs.Prelude.{flat_map}
use Rattle.task_syntax.specs.Names.{tasks_of_unit}
use Rattle.trace_out.specs.Labels.{label_text}
use Rattle.trace_out.specs.Names.{name_of_task}
use Rattle.trace_out.proofs.names.labels_of_tasks.Given as goal

abbrev pub invariant-loop-unit : goal.invariant-loop-unit
invariant-loop-unit l =
    map label_text l.labels.items
    ++ map name_of_task (flat_map tasks_of_unit (drop l.unit-index l.units))
    ≡ map name_of_task (flat_map tasks_of_unit l.units)
