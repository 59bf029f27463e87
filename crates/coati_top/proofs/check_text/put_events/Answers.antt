use Rattle.std.proofs.Common.{◌≡◌, ℕ, ◌+◌, ◌++◌, List, ap, ◌∙◌, arith}
use Rattle.std.specs.Prelude.{codes, Option}
use Rattle.std.specs.Option.{option_map_or}
use Rattle.task_syntax.specs.declared.program.Event.{Event}
use Rattle.task_cost.specs.Bodies.{top_cost, bottom_cost, event_cost}
use Rattle.coati_top.specs.CheckText.{cost_line, event_line}
use Rattle.coati_top.proofs.Numbered.{one_more}
use Rattle.coati_top.proofs.check_text.put_events.Goals as goal

pub loop-number-preserved : goal.loop-number-preserved
loop-number-preserved c =
    let program = c.args.checked.now in
    let event = c.event.result.now in
    let top : c.body_cost.result ≡ top_cost program event =
    c.body_cost.ensures.cost ∙ ap (λ (found : Option Event). option_map_or (top_cost program) found 0) c.event.ensures in
    let bottom : c.body_cost-in-loop-number.result ≡ bottom_cost program event =
    c.body_cost-in-loop-number.ensures.cost ∙ ap (λ (found : Option Event). option_map_or (bottom_cost program) found 0) c.event.ensures in
    let cost : c.body_cost.result + c.body_cost-in-loop-number.result ≡ event_cost program event = omega (arith, top, bottom) in
    let line : c.put_cost.new.out.items ≡ c.loop-number.out.items ++ event_line program event =
    c.in_ok-put_cost.ensures
    ∙ ap (λ (name : List ℕ). c.loop-number.out.items ++ cost_line (codes "event") name (c.body_cost.result + c.body_cost-in-loop-number.result)) c.as_slice-name.ensures
    ∙ ap (λ (n : ℕ). c.loop-number.out.items ++ cost_line (codes "event") event.name.text n) cost in
    one_more (event_line program) program.events c.loop-number.number event c.loop-number.out.items c.put_cost.new.out.items _
    (omega (arith, c.events-number-end.ensures.events)) c.event.ensures line c.loop-number.invariant
