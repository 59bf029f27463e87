use Rattle.std.proofs.Common.{ap, ◌∙◌}
use Rattle.nv_memory.specs.declared.layout.Layout.{Layout}
use Rattle.nv_memory.specs.Logs.{seats_of}
use Rattle.nv_memory.specs.Seats.{address}
use Rattle.nv_memory.proofs.Seats.{number_seat, word_inside, word_is}
use Rattle.nv_memory.proofs.image.Image.number.Goals as goal

pub get-requires : goal.get-requires
get-requires c =
    let m = c.args.self.now in
    word_inside m.n m.k c.number.result ((seats_of c.args.log).number c.args.i)
    (c.number.ensures ∙ ap (λ (l : Layout). address l.n ((seats_of c.args.log).number c.args.i)) c.layout.ensures.layout)
    (number_seat m.n m.k c.args.log c.args.i c.requires.log c.requires.pair)

pub returns : goal.returns
returns c =
    let m = c.args.self.now in
    c.get.ensures ∙ word_is m c.number.result ((seats_of c.args.log).number c.args.i)
    (c.number.ensures ∙ ap (λ (l : Layout). address l.n ((seats_of c.args.log).number c.args.i)) c.layout.ensures.layout)
    (number_seat m.n m.k c.args.log c.args.i c.requires.log c.requires.pair)
