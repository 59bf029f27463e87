use Rattle.std.proofs.Common.{◌≡◌, drop, map}
use Rattle.std.specs.Prelude.{flat_map}
use Rattle.task_check.specs.Bodies.{task_body}
use Rattle.task_check.specs.Measures.{nearer, first_least, too_long}
use Rattle.task_check.proofs.rules.measures.too_long_tasks.Given as goal

abbrev pub invariant-loop-task : goal.invariant-loop-task
invariant-loop-task l =
    nearer l.found (first_least (flat_map (too_long l.program) (map task_body (drop l.task-index l.tasks))))
    ≡ first_least (flat_map (too_long l.program) (map task_body l.tasks))
