use Rattle.std.proofs.Common.{◌≡◌, drop}
use Rattle.task_check.specs.Numbers.{event_from}
use Rattle.task_check.proofs.lookups.event_named.Given as goal

abbrev pub invariant-loop-event : goal.invariant-loop-event
invariant-loop-event l = record {
  left : event_from l.number (drop l.event-index l.events) l.name ≡ event_from 0 l.events l.name;
  counted : l.number ≡ l.event-index;
}
