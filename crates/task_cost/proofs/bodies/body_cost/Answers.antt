use Rattle.std.proofs.Common.{◌≡◌, arith, refl}
use Rattle.std.proofs.lemmas.Option.{slice_get_past}
use Rattle.task_syntax.specs.Names.{tasks}
use Rattle.task_syntax.specs.Saturated.{saturated}
use Rattle.task_cost.specs.Bodies.{task_cost, top_cost, bottom_cost}
use Rattle.task_cost.proofs.Measured.{task_told, top_told, bottom_told}
use Rattle.task_cost.proofs.bodies.body_cost.Goals as goal

pub returns-in-Task : goal.returns-in-Task
returns-in-Task c =
    let program = c.args.checked.now in
    let task = c.task-task.result.now in
    let cost : c.cost.result ≡ saturated (task_cost program task) = rw (← c.program-program.ensures.program) (rw (← c.as_slice.ensures) c.cost.ensures) in
    let told = task_told program c.in-Task.number task c.cost.result c.program-program.ensures.accepted c.task-task.ensures cost in
    rw c.in-Task.is (record { cost = told.0; most = told.1 })

pub returns-in-Top : goal.returns-in-Top
returns-in-Top c =
    let program = c.args.checked.now in
    let event = c.event-event.result.now in
    let cost : c.cost-in-Top.result ≡ saturated (top_cost program event) = rw (← c.program-program.ensures.program) (rw (← c.as_slice-in-Top.ensures) c.cost-in-Top.ensures) in
    let told = top_told program c.in-Top.number event c.cost-in-Top.result c.program-program.ensures.accepted c.event-event.ensures cost in
    rw c.in-Top.is (record { cost = told.0; most = told.1 })

pub returns-in-Bottom : goal.returns-in-Bottom
returns-in-Bottom c =
    let program = c.args.checked.now in
    let event = c.event-event-in-Bottom.result.now in
    let cost : c.cost-in-Bottom.result ≡ saturated (bottom_cost program event) = rw (← c.program-program.ensures.program) (rw (← c.as_slice-in-Bottom.ensures) c.cost-in-Bottom.ensures) in
    let told = bottom_told program c.in-Bottom.number event c.cost-in-Bottom.result c.program-program.ensures.accepted c.event-event-in-Bottom.ensures cost in
    rw c.in-Bottom.is (record { cost = told.0; most = told.1 })

pub returns-in_default-clause-cost : goal.returns-in_default-clause-cost
returns-in_default-clause-cost c =
    let absent = slice_get_past (tasks c.args.checked.now) c.in-Task.number (omega arith) in
    rw (c.in-Task.is, absent) refl

pub returns-in_default-2-clause-cost : goal.returns-in_default-2-clause-cost
returns-in_default-2-clause-cost c =
    let absent = slice_get_past c.args.checked.now.events c.in-Top.number (omega arith) in
    rw (c.in-Top.is, absent) refl

pub returns-in_default-3-clause-cost : goal.returns-in_default-3-clause-cost
returns-in_default-3-clause-cost c =
    let absent = slice_get_past c.args.checked.now.events c.in-Bottom.number (omega arith) in
    rw (c.in-Bottom.is, absent) refl
