use Rattle.std.proofs.Common.{arith, rules}
use Rattle.task_check.specs.Measures.{too_long}
use Rattle.task_check.proofs.BodyParts.{of_tasks}
use Rattle.task_check.proofs.SizeParts.{sizes_join}
use Rattle.task_check.proofs.Turns.{turn}
use Rattle.task_check.proofs.rules.measures.too_long_tasks.Goals as goal

pub loop-task-preserved : goal.loop-task-preserved
loop-task-preserved c =
    turn _ _ sizes_join _ _ (of_tasks (too_long c.args.program.now)) c.args.tasks.now c.loop-task.task-index c.task-item.result c.loop-task.found c.too_long.result c.nearer-found.result
    (omega arith) c.task-item.is (search rules) c.nearer-found.ensures c.loop-task.invariant
