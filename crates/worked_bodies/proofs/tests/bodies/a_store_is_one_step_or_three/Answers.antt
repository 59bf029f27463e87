use Rattle.worked_bodies.proofs.Bodies.{task_has_body}
use Rattle.worked_bodies.proofs.tests.bodies.a_store_is_one_step_or_three.Goals as goal

pub run-requires-clause-body : goal.run-requires-clause-body
run-requires-clause-body g c = task_has_body c.in_ok-compiled.compiled.checked 0 c.task-task.result.now c.task-task.ensures

pub run-requires-2-clause-body : goal.run-requires-2-clause-body
run-requires-2-clause-body g c = task_has_body c.in_ok-compiled.compiled.checked 0 c.task-task.result.now c.task-task.ensures
