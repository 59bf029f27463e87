use Rattle.std.proofs.Common.{◌≡◌, ◌+◌, ◌-◌, ◌∙◌, ap, arith, refl, subst}
use Rattle.std.specs.Prelude.{List, ℕ}
use Rattle.coati_word.specs.declared.reading.Reading.{Reading}
use Rattle.event_buffer.proofs.Slots.{held_length}
use Rattle.nv_memory.specs.declared.layout.Layout.{Layout}
use Rattle.nv_memory.specs.Ring.{entry_at, held_count, slot_of}
use Rattle.nv_memory.specs.StandsFor.{head_slot}
use Rattle.nv_memory.specs.State.{Writes, set_to, state}
use Rattle.nv_memory.specs.Words.{mark_seat}
use Rattle.coati_device.specs.Kept.{with_event}
use Rattle.coati_board.proofs.EventCommitting.{commits_event_row}
use Rattle.coati_board.proofs.bottom_rows.commit_event.Goals as goal
use Rattle.coati_board.proofs.bottom_rows.commit_event.Goals.{After-held}

counted : (c : After-held) → c.held.result ≡ held_count (state c.args.device.now.image)
counted c = c.held.ensures ∙ held_length (state c.args.device.now.image)

head_slot_is : (c : After-held) → c.slot-slot.result ≡ head_slot (state c.args.device.now.image)
head_slot_is c =
    c.slot-slot.ensures.slot ∙ ap (λ (layout : Layout). slot_of layout.k c.head.result)
    c.layout.ensures.layout
    ∙ ap (slot_of c.args.device.now.image.k) c.head.ensures

pub overflow_sub-posting : goal.overflow_sub-posting
overflow_sub-posting c =
    let few = c.requires.few in
    let count = counted (goal.at.overflow_sub-posting c).After-held in omega (arith, few, count)

pub put-requires : goal.put-requires
put-requires c = (
  set_to mark_seat 3,
  record
      { seat = refl; is = c.mark_write.ensures c.args.device.now.image.n },
)

pub returns : goal.returns
returns c program code =
    rw c.choose_next.ensures
    (let d = c.args.device.now in
    let marks : Writes d.image (set_to mark_seat 3) c.mark_write.result =
    record { seat = refl; is = c.mark_write.ensures d.image.n } in
    let few = c.requires.few in
    let some = c.requires.ends.events.held in
    let count = counted (goal.at.returns c).After-held in
    commits_event_row program code d c.put.new.image c.commit_posting.new.history c.clear.new.self
    c.event-event.result (d.accepted - c.held.result + 1) c.requires.ends c.requires.prepared
    (c.put.ensures (set_to mark_seat 3) marks).written
    (c.event-event.ensures ∙ ap (λ (slot : ℕ). (entry_at (state d.image) slot).event)
    (head_slot_is (goal.at.returns c).After-held)) (omega (arith, few, some, count))
    (subst (λ (reads : List Reading). c.commit_posting.new.history ≡ with_event d.history
    c.event-event.result (d.accepted - c.held.result + 1) reads (d.clock + 1))
    c.as_slice.ensures c.commit_posting.ensures)
    c.clear.ensures)
