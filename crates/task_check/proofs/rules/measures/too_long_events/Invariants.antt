use Rattle.std.proofs.Common.{◌≡◌, drop}
use Rattle.std.specs.Prelude.{flat_map}
use Rattle.task_check.specs.Bodies.{halves}
use Rattle.task_check.specs.Measures.{nearer, first_least, too_long}
use Rattle.task_check.proofs.rules.measures.too_long_events.Given as goal

abbrev pub invariant-loop-event : goal.invariant-loop-event
invariant-loop-event l =
    nearer l.found (first_least (flat_map (too_long l.program) (flat_map halves (drop l.event-index l.events))))
    ≡ first_least (flat_map (too_long l.program) (flat_map halves l.events))
