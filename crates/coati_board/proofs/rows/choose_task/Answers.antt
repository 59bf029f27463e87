use Rattle.std.proofs.Common.{refl}
use Rattle.coati_device.specs.Rows.IsRow.{empties}
use Rattle.coati_board.proofs.rows.choose_task.Goals as goal

pub returns-in-Some : goal.returns-in-Some
returns-in-Some c program most =
    empties c.put.new.image c.requires.chooses (λ e. c.if-task.false (cc)) c.in-Some.ensures.0
    (c.put.ensures _ c.in-Some.ensures.1).written refl
