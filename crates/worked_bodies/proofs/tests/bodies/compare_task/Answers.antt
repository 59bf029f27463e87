use Rattle.worked_bodies.proofs.Bodies.{task_has_body}
use Rattle.worked_bodies.proofs.tests.bodies.compare_task.Goals as goal

pub run_on_both-requires-clause-body : goal.run_on_both-requires-clause-body
run_on_both-requires-clause-body g c = task_has_body c.args.compiled.now.checked c.args.task c.task-task.result.now c.task-task.ensures
