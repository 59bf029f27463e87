use Rattle.std.proofs.Common.{refl}
use Rattle.coati_device.specs.Rows.IsRow.{undoes}
use Rattle.coati_board.proofs.rows.undo.Goals as goal

pub returns-in-Some : goal.returns-in-Some
returns-in-Some c program code =
    let next = c.in-Some.ensures.next in
    undoes next.change c.put.new.image c.requires.no_commit next.next
    (c.put.ensures next.change next.writes).written refl
