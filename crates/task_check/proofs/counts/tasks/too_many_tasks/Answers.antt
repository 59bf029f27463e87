use Rattle.std.proofs.Common.{arith}
use Rattle.std.specs.Prelude.{slice_get}
use Rattle.task_syntax.specs.declared.program.Event.{Event}
use Rattle.task_syntax.specs.declared.program.TaskDecl.{TaskDecl}
use Rattle.task_syntax.specs.declared.program.TxDecl.{TxDecl}
use Rattle.task_syntax.specs.Names.{tasks}
use Rattle.task_check.specs.Counts.{place_of, transactions}
use Rattle.task_check.proofs.Places.{is_least-three}
use Rattle.task_check.proofs.counts.tasks.too_many_tasks.Goals as goal

pub returns : goal.returns
returns c =
    let program = c.args.program.now in
    is_least-three (place_of (λ (task : TaskDecl). task.name) (slice_get (tasks program) 64)) (place_of (λ (event : Event). event.name) (slice_get program.events 16))
    (place_of (λ (tx : TxDecl). tx.name) (slice_get (transactions program) 16)) c.lesser-2.result (grind (arith))
