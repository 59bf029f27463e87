use Rattle.std.proofs.Common.{◌∙◌, refl, sym}
use Rattle.coati_board.proofs.HandlerRunning.{accepted_so, held_in_buffi, none_in_split}
use Rattle.coati_board.proofs.handler.accept.Goals as goal

pub returns-then-is_buffi : goal.returns-then-is_buffi
returns-then-is_buffi c =
    let d = c.args.device.now in
    accepted_so d c.put.new.image c.hold.new.self _
    (c.put.ensures _ c.accept_write-write.ensures).written
    refl (held_in_buffi d c.hold.new.self (sym c.is_buffi-is_buffi.ensures ∙ c.if-is_buffi.true)
    c.hold.ensures)

pub returns-else-is_buffi : goal.returns-else-is_buffi
returns-else-is_buffi c =
    let d = c.args.device.now in
    accepted_so d c.put.new.image _ _ (c.put.ensures _ c.accept_write-write.ensures).written
    refl (none_in_split d (sym c.is_buffi-is_buffi.ensures ∙ c.if-is_buffi.false))
