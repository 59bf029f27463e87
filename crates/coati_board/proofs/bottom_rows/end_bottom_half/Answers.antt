use Rattle.std.proofs.Common.{refl, subst}
use Rattle.nv_memory.specs.Ring.{position_after}
use Rattle.nv_memory.specs.State.{Change, state}
use Rattle.nv_memory.specs.Words.{head, head_next_seat}
use Rattle.coati_device.specs.TaskView.{HasWritten}
use Rattle.coati_device.specs.Rows.IsRow.{prepares_event}
use Rattle.coati_board.proofs.Choosing.{undone}
use Rattle.coati_board.proofs.bottom_rows.end_bottom_half.Goals as goal

pub returns-in-Some : goal.returns-in-Some
returns-in-Some c program code =
    let image = c.args.device.now.image in
    let next = c.in-Some.ensures.next in
    let open_ = undone (state image) head_next_seat (position_after image.k (head (state image)))
    next.change next.next in
    prepares_event c.put.new.image c.requires.ends open_.other
    (subst (λ (change : Change). HasWritten image change c.put.new.image) open_.change_is
    (c.put.ensures next.change next.writes).written) refl
