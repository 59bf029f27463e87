use Rattle.std.proofs.Common.{◌∙◌, List, ℕ, ap, refl, subst, sym}
use Rattle.nv_memory.specs.State.{state}
use Rattle.task_syntax.specs.declared.body.BodyId.TheVariants.{Bottom}
use Rattle.word_cpu.specs.UnderWay.{IsAtStart}
use Rattle.coati_device.specs.Raises.IsHandStep.{begins_bottom, fills, fills_last}
use Rattle.coati_board.proofs.HandSteps.{bottom_ends, bottom_goes_on, top_ends, top_goes_on}
use Rattle.coati_board.proofs.HandlerRunning.{begun_behind, buffi_by, last_by, not_last_by, split_by}
use Rattle.coati_board.proofs.handler.step.Goals as goal

pub returns-in-Some : goal.returns-in-Some
returns-in-Some c =
    let (turn, made, gives) = c.top_step.ensures in
    top_ends c.args.code.now c.args.event c.args.device.now c.args.hand.now _ c.in-Top.cpu
    c.top_step.new.cpu c.in-Top.words c.top_step.new.words c.in-Some.message turn c.in-Top.is made
    (sym c.in-Some.is ∙ gives) c.begin_filling.ensures

pub returns-in_default : goal.returns-in_default
returns-in_default c =
    let (turn, made, gives) = c.top_step.ensures in
    top_goes_on c.args.code.now c.args.event c.args.device.now c.args.hand.now _ c.in-Top.cpu
    c.top_step.new.cpu c.in-Top.words c.top_step.new.words turn c.in-Top.is made
    (sym c.in_default.is ∙ gives) refl

pub returns-then-part-as_slice : goal.returns-then-part-as_slice
returns-then-part-as_slice c =
    fills c.in-Fill.message c.in-Fill.part c.fill.ensures.image c.in-Fill.is
    (not_last_by c.in-Fill.message c.as_slice.result.now c.in-Fill.part c.as_slice.ensures.words
    c.if-part-as_slice.true)
    c.fill.ensures.wrote c.fill.ensures.same refl

pub returns-then-is_buffi : goal.returns-then-is_buffi
returns-then-is_buffi c =
    begins_bottom c.in-Fill.message c.in-Fill.part c.fill.ensures.image c.start-cpu.result
    c.in-Fill.is
    (last_by c.in-Fill.message c.as_slice.result.now c.in-Fill.part c.as_slice.ensures.words
    c.if-part-as_slice.false)
    (buffi_by (state c.args.device.now.image)
    (sym c.is_buffi-is_buffi.ensures ∙ c.if-is_buffi.true))
    c.fill.ensures.wrote
    (subst (λ (words : List ℕ). IsAtStart (Bottom c.args.event) words c.start-cpu.result)
    c.as_slice-then-is_buffi.ensures.words c.start-cpu.ensures)
    (begun_behind c.args.device.now c.fill.new.device c.begin.new.self c.fill.ensures.image
    c.fill.ensures.same c.begin.ensures)
    c.begin_bottom_half.ensures

pub returns-else-is_buffi : goal.returns-else-is_buffi
returns-else-is_buffi c =
    fills_last c.in-Fill.message c.in-Fill.part c.fill.ensures.image c.in-Fill.is
    (last_by c.in-Fill.message c.as_slice.result.now c.in-Fill.part c.as_slice.ensures.words
    c.if-part-as_slice.false)
    (split_by (state c.args.device.now.image)
    (sym c.is_buffi-is_buffi.ensures ∙ c.if-is_buffi.false))
    c.fill.ensures.wrote c.fill.ensures.same c.come_to_accept.ensures

pub returns-then-bottom_step : goal.returns-then-bottom_step
returns-then-bottom_step c =
    let (image, turn, made, new, ends) = c.bottom_step.ensures in
    bottom_ends c.args.code.now c.args.event c.args.device.now c.args.hand.now _
    c.bottom_step.new.device c.in-Bottom.cpu c.bottom_step.new.cpu c.in-Bottom.is image turn made
    new (sym c.if-bottom_step.true ∙ ends) c.come_to_accept-then-bottom_step.ensures

pub returns-else-bottom_step : goal.returns-else-bottom_step
returns-else-bottom_step c =
    let (image, turn, made, new, ends) = c.bottom_step.ensures in
    bottom_goes_on c.args.code.now c.args.event c.args.device.now c.args.hand.now _
    c.bottom_step.new.device c.in-Bottom.cpu c.bottom_step.new.cpu c.in-Bottom.is image turn made
    new (sym c.if-bottom_step.false ∙ ends) refl

pub returns-in-Accept : goal.returns-in-Accept
returns-in-Accept c =
    rw (c.in-Accept.is, c.end.ensures) (c.accept.ensures c.args.code.now c.args.event)
