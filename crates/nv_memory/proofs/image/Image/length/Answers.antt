use Rattle.std.proofs.Common.{ap, ◌∙◌}
use Rattle.nv_memory.specs.declared.layout.Layout.{Layout}
use Rattle.nv_memory.specs.Logs.{seats_of}
use Rattle.nv_memory.specs.Seats.{address}
use Rattle.nv_memory.proofs.Seats.{length_seat, word_inside, word_is}
use Rattle.nv_memory.proofs.image.Image.length.Goals as goal

pub get-requires : goal.get-requires
get-requires c =
    let m = c.args.self.now in
    word_inside m.n m.k c.length.result ((seats_of c.args.log).length)
    (c.length.ensures ∙ ap (λ (l : Layout). address l.n ((seats_of c.args.log).length)) c.layout.ensures.layout)
    (length_seat m.n m.k c.args.log c.requires)

pub returns : goal.returns
returns c =
    let m = c.args.self.now in
    c.get.ensures ∙ word_is m c.length.result ((seats_of c.args.log).length)
    (c.length.ensures ∙ ap (λ (l : Layout). address l.n ((seats_of c.args.log).length)) c.layout.ensures.layout)
    (length_seat m.n m.k c.args.log c.requires)
