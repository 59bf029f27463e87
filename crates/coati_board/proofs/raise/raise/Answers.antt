use Rattle.std.proofs.Common.{◌∙◌, ◌<◌, subst, sym}
use Rattle.serial_log.specs.History.{Past}
use Rattle.coati_board.proofs.Raising.{can_answer, handled}
use Rattle.coati_board.proofs.raise.raise.Goals as goal

pub settle-requires-clause-can : goal.settle-requires-clause-can
settle-requires-clause-can c =
    can_answer c.args.script.now.postings c.args.device.now c.handle-answer.new.device
    c.args.number c.requires.can.answer c.handle-answer.ensures.leaves

pub settle-requires-clause-time : goal.settle-requires-clause-time
settle-requires-clause-time c = c.handle-answer.ensures.leaves.time

pub settle-requires-clause-boots : goal.settle-requires-clause-boots
settle-requires-clause-boots c = c.handle-answer.ensures.leaves.boots

pub settle-requires-clause-spare : goal.settle-requires-clause-spare
settle-requires-clause-spare c = c.handle-answer.ensures.leaves.spare

pub settle-requires-clause-marks : goal.settle-requires-clause-marks
settle-requires-clause-marks c =
    subst (λ (past : Past). 1 < past.mark_room) (sym c.handle-answer.ensures.leaves.history)
    c.requires.can.marks

pub returns : goal.returns
returns c =
    handled c.args.checked.now c.args.code.now c.args.script.now.power c.args.script.now.postings
    c.args.number c.args.device.now c.handle-answer.new.device
    c.settle.new.device c.handle-answer.result c.upcoming-posting.result
    (sym c.is_full.ensures ∙ c.if-is_full.false) c.upcoming-posting.ensures
    c.handle-answer.ensures.handles c.settle.ensures
