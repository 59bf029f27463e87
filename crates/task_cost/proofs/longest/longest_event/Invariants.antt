use Rattle.std.proofs.Common.{◌≡◌, map, drop}
use Rattle.std.specs.Prelude.{max}
use Rattle.task_syntax.specs.Depth.{greatest}
use Rattle.task_syntax.specs.Saturated.{saturated}
use Rattle.task_cost.specs.Bodies.{event_cost}
use Rattle.task_cost.proofs.longest.longest_event.Given as goal

abbrev pub invariant-loop-event : goal.invariant-loop-event
invariant-loop-event l =
    max l.longest (saturated (greatest (map (event_cost l.program) (drop l.event-index l.event-items))))
    ≡ saturated (greatest (map (event_cost l.program) l.event-items))
