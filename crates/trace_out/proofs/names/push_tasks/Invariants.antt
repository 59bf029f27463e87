use Rattle.std.proofs.Common.{◌≡◌, ◌++◌, drop, map}
use Rattle.trace_out.specs.Labels.{label_text}
use Rattle.trace_out.specs.Names.{name_of_task}
use Rattle.trace_out.proofs.names.push_tasks.Given as goal

abbrev pub invariant-loop-task : goal.invariant-loop-task
invariant-loop-task l =
    map label_text l.labels.items ++ map name_of_task (drop l.task-index l.tasks)
    ≡ map label_text l.initial.labels.items ++ map name_of_task l.tasks
