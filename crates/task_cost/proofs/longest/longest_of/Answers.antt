use Rattle.std.proofs.Common.{arith, rules}
use Rattle.task_cost.specs.Bodies.{task_cost}
use Rattle.task_cost.proofs.Greatest.{of_costs}
use Rattle.task_cost.proofs.Turns.{turn, ended}
use Rattle.task_cost.proofs.longest.longest_of.Goals as goal

pub loop-task-preserved : goal.loop-task-preserved
loop-task-preserved c =
    turn _ _ (of_costs (task_cost c.args.program.now)) c.args.tasks.now c.loop-task.task-index c.task-item.result c.loop-task.longest c.cost.result c.max-longest.result
    (omega arith) c.task-item.is (search rules) (search rules) c.loop-task.invariant

pub returns : goal.returns
returns c =
    ended _ _ (of_costs (task_cost c.args.program.now)) c.args.tasks.now c.loop-task.task-index c.loop-task.longest (omega arith) c.loop-task.invariant
