use Rattle.std.proofs.Common.{◌∙◌, arith}
use Rattle.task_cost.proofs.Measured.{greatest_told}
use Rattle.task_cost.proofs.bounding.greatest_cost.Goals as goal

pub returns : goal.returns
returns c =
    let by_tasks = rw c.program-program.ensures.program at c.longest_task.ensures in
    let by_events = rw c.program-program.ensures.program at c.longest_event.ensures in
    let told = greatest_told c.args.checked.now c.longest_task.result c.longest_event.result c.program-program.ensures.accepted by_tasks by_events in
    record { cost = c.max.ensures ∙ told.0; most = omega (arith, c.max.ensures, told.1) }
