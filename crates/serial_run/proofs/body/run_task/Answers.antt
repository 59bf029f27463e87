use Rattle.serial_run.proofs.body.run_task.Goals as goal

pub returns-clause-ending : goal.returns-clause-ending
returns-clause-ending c = rw (c.task_body.ensures.body, c.new-locals.ensures) at c.run_body.ensures.ending

pub returns-clause-moment : goal.returns-clause-moment
returns-clause-moment c = rw (c.task_body.ensures.body, c.new-locals.ensures) at c.run_body.ensures.moment
