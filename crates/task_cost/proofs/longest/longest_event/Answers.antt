use Rattle.std.proofs.Common.{◌∙◌, ap, arith, rules, map}
use Rattle.task_syntax.specs.Depth.{greatest}
use Rattle.task_syntax.specs.Saturated.{saturated}
use Rattle.task_cost.specs.Bodies.{event_cost}
use Rattle.task_cost.proofs.Greatest.{of_costs}
use Rattle.task_cost.proofs.Turns.{turn, ended}
use Rattle.task_cost.proofs.longest.longest_event.Goals as goal

pub loop-event-preserved : goal.loop-event-preserved
loop-event-preserved c =
    turn _ _ (of_costs (event_cost c.args.program.now)) c.as_slice-event-items.result.now c.loop-event.event-index c.event-item.result c.loop-event.longest c.halves_cost.result c.max-longest.result
    (omega arith) c.event-item.is (search rules) (search rules) c.loop-event.invariant

pub returns : goal.returns
returns c =
    ended _ _ (of_costs (event_cost c.args.program.now)) c.as_slice-event-items.result.now c.loop-event.event-index c.loop-event.longest (omega arith) c.loop-event.invariant
    ∙ ap (λ events. saturated (greatest (map (event_cost c.args.program.now) events))) c.as_slice-event-items.ensures
