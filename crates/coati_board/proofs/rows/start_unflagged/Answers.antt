use Rattle.std.proofs.Common.{refl}
use Rattle.coati_device.specs.Rows.IsRow.{unflags}
use Rattle.coati_board.proofs.rows.start_unflagged.Goals as goal

pub returns-in-Some : goal.returns-in-Some
returns-in-Some c program most =
    let left = c.in-Some.ensures.write in
    unflags left.change c.put.new.image c.requires.chooses (λ e. c.requires.some (cc))
    c.requires.empty left.buffi left.next (c.put.ensures left.change left.writes).written refl
