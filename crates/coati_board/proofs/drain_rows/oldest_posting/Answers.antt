use Rattle.std.proofs.Common.{◌≡◌, ◌∙◌, arith}
use Rattle.event_buffer.proofs.Slots.{held_length}
use Rattle.nv_memory.specs.Ring.{held_count}
use Rattle.nv_memory.specs.State.{state}
use Rattle.coati_board.proofs.drain_rows.oldest_posting.Goals as goal
use Rattle.coati_board.proofs.drain_rows.oldest_posting.Goals.{After-held}

counted : (c : After-held) → c.held.result ≡ held_count (state c.args.device.now.image)
counted c = c.held.ensures ∙ held_length (state c.args.device.now.image)

pub overflow_sub-result : goal.overflow_sub-result
overflow_sub-result c =
    let few = c.requires.few in
    let count = counted (goal.at.overflow_sub-result c).After-held in
    omega (arith, few, count)

pub returns : goal.returns
returns c =
    let few = c.requires.few in
    let some = c.requires.some in
    let count = counted (goal.at.returns c).After-held in
    omega (arith, few, some, count)
