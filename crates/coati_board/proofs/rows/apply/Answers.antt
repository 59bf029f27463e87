use Rattle.std.proofs.Common.{refl}
use Rattle.coati_device.specs.Rows.IsRow.{applies}
use Rattle.coati_board.proofs.rows.apply.Goals as goal

pub returns-in-Some : goal.returns-in-Some
returns-in-Some c program code =
    let next = c.in-Some.ensures.next in
    applies next.change c.put.new.image next.next (c.put.ensures next.change next.writes).written
    refl
