use Rattle.std.proofs.Common.{ap, ◌∙◌, sym, arith, drop, map, ◌+◌}
use Rattle.task_check.specs.Mentions.{in_turn, halves_part}
use Rattle.task_check.specs.Walk.{behind}
use Rattle.task_check.proofs.Walking.{behind-from, behind-past}
use Rattle.task_check.proofs.names.halves.Goals as goal

pub loop-event-preserved : goal.loop-event-preserved
loop-event-preserved c =
    let events = c.args.events.now in
    let i = c.loop-event.event-index in
    let step = behind-from halves_part events i c.event-item.result c.loop-event.walk (omega arith) c.event-item.is in
    ap (behind (in_turn (map halves_part (drop (i + 1) events)))) c.in_ok-halves_of.ensures ∙ sym step ∙ c.loop-event.invariant

pub returns : goal.returns
returns c = sym (behind-past halves_part c.args.events.now c.loop-event.event-index c.loop-event.walk (omega arith)) ∙ c.loop-event.invariant
