use Rattle.std.proofs.Common.{ℕ, ap, sym, ◌∙◌}
use Rattle.nv_memory.specs.declared.layout.Layout.{Layout}
use Rattle.nv_memory.specs.Seats.{address}
use Rattle.nv_memory.specs.State.{state}
use Rattle.nv_memory.specs.Logs.{seats_of}
use Rattle.task_buffer.proofs.Parts.{ends_by_index, goes_on_at_first, room_in, writes_number, writes_value}
use Rattle.task_buffer.proofs.store.store_write.Goals as goal

pub returns-in-Some-clause-ends : goal.returns-in-Some-clause-ends
returns-in-Some-clause-ends c =
    ends_by_index (state c.args.img.now) c.args.log c.args.word c.args.part c.in-Some.i (sym c.place.ensures.index ∙ c.in-Some.is)

pub number-at-requires-clause-pair : goal.number-at-requires-clause-pair
number-at-requires-clause-pair c =
    let s = state c.args.img.now in
    let room = room_in s c.args.log c.args.word c.requires.range c.requires.log c.requires.word (sym c.place.ensures.index ∙ c.in_default.is) in
    rw (c.length-length.ensures, c.layout-layout.ensures.layout) room

pub value-at-requires-in-1-clause-pair : goal.value-at-requires-in-1-clause-pair
value-at-requires-in-1-clause-pair c =
    let s = state c.args.img.now in
    let room = room_in s c.args.log c.args.word c.requires.range c.requires.log c.requires.word (sym c.place.ensures.index ∙ c.in_default.is) in
    rw (c.length-length.ensures, c.layout-layout.ensures.layout) room

pub returns-in-0-clause-write : goal.returns-in-0-clause-write
returns-in-0-clause-write c =
    let m = c.args.img.now in
    let none = sym c.place.ensures.index ∙ c.in_default.is in
    writes_number m c.args.log c.args.word c.args.value c.args.part c.number-at.result c.in-0.is none c.requires.log
    (room_in (state m) c.args.log c.args.word c.requires.range c.requires.log c.requires.word none)
    (c.number-at.ensures
    ∙ ap (λ (l : Layout). address l.n ((seats_of c.args.log).number c.length-length.result)) c.layout-layout.ensures.layout
    ∙ ap (λ (len : ℕ). address m.n ((seats_of c.args.log).number len)) c.length-length.ensures)

pub returns-in-0-clause-ends : goal.returns-in-0-clause-ends
returns-in-0-clause-ends c =
    goes_on_at_first (state c.args.img.now) c.args.log c.args.word c.args.part c.in-0.is (sym c.place.ensures.index ∙ c.in_default.is)

pub returns-in-1-clause-write : goal.returns-in-1-clause-write
returns-in-1-clause-write c =
    let m = c.args.img.now in
    let none = sym c.place.ensures.index ∙ c.in_default.is in
    writes_value m c.args.log c.args.word c.args.value c.args.part c.value-at-in-1.result c.in-1.is none c.requires.log
    (room_in (state m) c.args.log c.args.word c.requires.range c.requires.log c.requires.word none)
    (c.value-at-in-1.ensures
    ∙ ap (λ (l : Layout). address l.n ((seats_of c.args.log).value c.length-length.result)) c.layout-layout.ensures.layout
    ∙ ap (λ (len : ℕ). address m.n ((seats_of c.args.log).value len)) c.length-length.ensures)
