use Rattle.std.proofs.Common.{◌≡◌, drop, map}
use Rattle.task_check.specs.Mentions.{in_turn, event_part}
use Rattle.task_check.specs.Walk.{behind}
use Rattle.task_check.proofs.names.events.Given as goal

abbrev pub invariant-loop-event : goal.invariant-loop-event
invariant-loop-event l = behind (in_turn (map event_part (drop l.event-index l.events))) l.walk ≡ behind (in_turn (map event_part l.events)) l.initial.walk
