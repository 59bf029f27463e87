use Rattle.std.proofs.Common.{ap, ◌∙◌, ◌+◌, arith}
use Rattle.nv_memory.specs.declared.layout.Layout.{Layout}
use Rattle.nv_memory.specs.Ring.{message_seat}
use Rattle.nv_memory.specs.Seats.{address}
use Rattle.nv_memory.proofs.Seats.{entry_seat, word_inside}
use Rattle.nv_memory.proofs.image.Image.message_word.Goals as goal

pub get-requires : goal.get-requires
get-requires c =
    let m = c.args.self.now in
    word_inside m.n m.k c.message.result (message_seat c.args.slot c.args.i)
    (c.message.ensures ∙ ap (λ (l : Layout). address l.n (message_seat c.args.slot c.args.i)) c.layout.ensures.layout)
    (entry_seat m.n m.k c.args.slot 0 (2 + c.args.i) c.requires.slot (omega arith) (let low = c.requires.word in omega (arith, low)))
