use Rattle.std.proofs.Common.{ap, ◌∙◌, arith}
use Rattle.nv_memory.specs.declared.layout.Layout.{Layout}
use Rattle.nv_memory.specs.Ring.{event_seat}
use Rattle.nv_memory.specs.Seats.{address}
use Rattle.nv_memory.proofs.Seats.{entry_seat, word_inside}
use Rattle.nv_memory.proofs.image.Image.event.Goals as goal

pub get-requires : goal.get-requires
get-requires c =
    let m = c.args.self.now in
    word_inside m.n m.k c.event.result (event_seat c.args.slot)
    (c.event.ensures ∙ ap (λ (l : Layout). address l.n (event_seat c.args.slot)) c.layout.ensures.layout)
    (entry_seat m.n m.k c.args.slot 0 0 c.requires (omega arith) (omega arith))
