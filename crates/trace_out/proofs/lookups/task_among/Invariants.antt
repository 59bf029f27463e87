use Rattle.std.proofs.Common.{◌≡◌, ◌+◌, drop}
use Rattle.task_syntax.specs.Names.{task_from}
use Rattle.trace_out.proofs.lookups.task_among.Given as goal

abbrev pub invariant-loop-task : goal.invariant-loop-task
invariant-loop-task l = record {
  left : task_from l.number (drop l.task-index l.tasks) l.name ≡ task_from l.first l.tasks l.name;
  counted : l.number ≡ l.first + l.task-index;
}
