use Rattle.std.proofs.Common.{refl, subst}
use Rattle.nv_memory.specs.State.{Change}
use Rattle.nv_memory.specs.Words.{next_seat}
use Rattle.coati_device.specs.TaskView.{HasWritten}
use Rattle.coati_device.specs.Rows.IsRow.{prepares}
use Rattle.coati_board.proofs.Choosing.{undone}
use Rattle.nv_memory.specs.State.{state}
use Rattle.coati_board.proofs.rows.end.Goals as goal

pub returns-in-Some : goal.returns-in-Some
returns-in-Some c code =
    let next = c.in-Some.ensures.next in
    let open_ = undone (state c.args.device.now.image) next_seat c.args.place next.change
    next.next in
    prepares c.args.place c.put.new.image c.requires.ends open_.other
    (subst (λ (change : Change). HasWritten c.args.device.now.image change c.put.new.image)
    open_.change_is
    (c.put.ensures next.change next.writes).written) refl

pub returns-in-None : goal.returns-in-None
returns-in-None c code = c.end_task.ensures code
