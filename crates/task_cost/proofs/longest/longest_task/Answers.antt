use Rattle.std.proofs.Common.{◌∙◌, ap, arith, rules, map, flat_map}
use Rattle.task_syntax.specs.Depth.{greatest}
use Rattle.task_syntax.specs.Names.{tasks_of_unit}
use Rattle.task_syntax.specs.Saturated.{saturated}
use Rattle.task_cost.specs.Bodies.{task_cost}
use Rattle.task_cost.proofs.Greatest.{of_held}
use Rattle.task_cost.proofs.Turns.{turn, ended}
use Rattle.task_cost.proofs.longest.longest_task.Goals as goal

pub loop-unit-preserved : goal.loop-unit-preserved
loop-unit-preserved c =
    turn _ _ (of_held tasks_of_unit (task_cost c.args.program.now)) c.as_slice-unit-items.result.now c.loop-unit.unit-index c.unit-item.result c.loop-unit.longest c.longest_of.result c.max-longest.result
    (omega arith) c.unit-item.is (search rules) (search rules) c.loop-unit.invariant

pub returns : goal.returns
returns c =
    ended _ _ (of_held tasks_of_unit (task_cost c.args.program.now)) c.as_slice-unit-items.result.now c.loop-unit.unit-index c.loop-unit.longest (omega arith) c.loop-unit.invariant
    ∙ ap (λ units. saturated (greatest (map (task_cost c.args.program.now) (flat_map tasks_of_unit units)))) c.as_slice-unit-items.ensures
