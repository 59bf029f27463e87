use Rattle.std.proofs.Common.{arith, rules}
use Rattle.task_check.specs.Measures.{too_long}
use Rattle.task_check.proofs.BodyParts.{of_events}
use Rattle.task_check.proofs.SizeParts.{sizes_join}
use Rattle.task_check.proofs.Turns.{turn}
use Rattle.task_check.proofs.rules.measures.too_long_events.Goals as goal

pub loop-event-preserved : goal.loop-event-preserved
loop-event-preserved c =
    turn _ _ sizes_join _ _ (of_events (too_long c.args.program.now)) c.args.events.now c.loop-event.event-index c.event-item.result c.loop-event.found c.too_long_halves.result c.nearer-found.result
    (omega arith) c.event-item.is (search rules) c.nearer-found.ensures c.loop-event.invariant
