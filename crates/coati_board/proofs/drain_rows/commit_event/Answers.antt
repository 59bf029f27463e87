use Rattle.std.proofs.Common.{◌≡◌, ◌+◌, ◌∙◌, ap, refl, subst}
use Rattle.std.specs.Prelude.{List, ℕ}
use Rattle.coati_word.specs.declared.reading.Reading.{Reading}
use Rattle.nv_memory.specs.declared.layout.Layout.{Layout}
use Rattle.nv_memory.specs.Ring.{entry_at, slot_of}
use Rattle.nv_memory.specs.StandsFor.{head_slot}
use Rattle.nv_memory.specs.State.{Writes, set_to, state}
use Rattle.nv_memory.specs.Words.{mark_seat}
use Rattle.coati_device.specs.Kept.{with_event}
use Rattle.coati_board.proofs.Draining.{drains_row}
use Rattle.coati_board.proofs.drain_rows.commit_event.Goals as goal

pub put-requires : goal.put-requires
put-requires c = (
  set_to mark_seat 3,
  record { seat = refl; is = c.mark_write.ensures c.args.device.now.image.n },
)

pub returns : goal.returns
returns c program code =
    let d = c.args.device.now in
    let marks : Writes d.image (set_to mark_seat 3) c.mark_write.result =
    record { seat = refl; is = c.mark_write.ensures d.image.n } in
    let slot : c.slot.result ≡ head_slot (state d.image) =
    c.slot.ensures.slot
    ∙ ap (λ (layout : Layout). slot_of layout.k c.head.result) c.layout.ensures.layout
    ∙ ap (slot_of d.image.k) c.head.ensures in
    drains_row program code d c.put.new.image c.commit_posting.new.history c.release.new.self
    c.event-event.result c.oldest_posting-posting.result c.requires.drains c.requires.prepared
    (c.put.ensures (set_to mark_seat 3) marks).written
    (c.event-event.ensures
    ∙ ap (λ (at : ℕ). (entry_at (state d.image) at).event) slot)
    c.oldest_posting-posting.ensures
    (subst (λ (reads : List Reading). c.commit_posting.new.history
    ≡ with_event d.history c.event-event.result c.oldest_posting-posting.result reads
    (d.clock + 1)) c.first.ensures c.commit_posting.ensures)
    c.release.ensures
