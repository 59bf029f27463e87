use Rattle.std.proofs.Common.{◌≡◌, map, drop}
use Rattle.std.specs.Prelude.{max}
use Rattle.task_syntax.specs.Depth.{greatest}
use Rattle.task_syntax.specs.Saturated.{saturated}
use Rattle.task_cost.specs.Bodies.{task_cost}
use Rattle.task_cost.proofs.longest.longest_of.Given as goal

abbrev pub invariant-loop-task : goal.invariant-loop-task
invariant-loop-task l =
    max l.longest (saturated (greatest (map (task_cost l.program) (drop l.task-index l.tasks)))) ≡ saturated (greatest (map (task_cost l.program) l.tasks))
