use Rattle.std.proofs.Common.{◌∙◌, arith, sym}
use Rattle.nv_memory.specs.State.{state}
use Rattle.event_buffer.proofs.Slots.{held_few, slot_is}
use Rattle.event_buffer.proofs.postings.held_slot.Goals as goal

pub slot_behind-requires-clause-few : goal.slot_behind-requires-clause-few
slot_behind-requires-clause-few c =
    let few = held_few (state c.args.img.now) c.requires.range in
    let held = c.requires.held in
    omega (arith, few, held)

pub returns-clause-slot : goal.returns-clause-slot
returns-clause-slot c =
    c.slot_behind.ensures.slot ∙ sym (slot_is (state c.args.img.now) c.args.i c.requires.range.ring c.requires.held)
