use Rattle.std.proofs.Common.{◌≡◌, map, drop}
use Rattle.std.specs.Prelude.{max, flat_map}
use Rattle.task_syntax.specs.Depth.{greatest}
use Rattle.task_syntax.specs.Names.{tasks_of_unit}
use Rattle.task_syntax.specs.Saturated.{saturated}
use Rattle.task_cost.specs.Bodies.{task_cost}
use Rattle.task_cost.proofs.longest.longest_task.Given as goal

abbrev pub invariant-loop-unit : goal.invariant-loop-unit
invariant-loop-unit l =
    max l.longest (saturated (greatest (map (task_cost l.program) (flat_map tasks_of_unit (drop l.unit-index l.unit-items)))))
    ≡ saturated (greatest (map (task_cost l.program) (flat_map tasks_of_unit l.unit-items)))
