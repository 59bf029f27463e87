use Rattle.std.proofs.Common.{ℕ, ap, sym, ◌∙◌, ◌+◌, arith, rules}
use Rattle.nv_memory.specs.Seats.{address}
use Rattle.nv_memory.specs.State.{state}
use Rattle.nv_memory.specs.Logs.{length_in, tx_log}
use Rattle.nv_memory.proofs.Seats.{part_seat, word_inside, word_is}
use Rattle.tx_buffer.proofs.Adds.{adds_length, adds_number, adds_value, has_room}
use Rattle.tx_buffer.proofs.Makes.{at_seat}
use Rattle.tx_buffer.proofs.merge.pair_added.Goals as goal

pub number-number_at-requires-clause-pair : goal.number-number_at-requires-clause-pair
number-number_at-requires-clause-pair c =
    let room = has_room (state c.args.image.now) c.args.word c.requires.range c.requires.word c.requires.absent in
    search rules

pub get-requires : goal.get-requires
get-requires c =
    let m = c.args.image.now in
    let end = c.length-end.result in
    word_inside m.n m.k c.number-number_at.result (tx_log.number end)
    (at_seat m c.layout-layout.result c.number-number_at.result (tx_log.number end) c.layout-layout.ensures.layout c.number-number_at.ensures)
    (part_seat m.n m.k 3 end (omega arith) (rw c.length-end.ensures (has_room (state m) c.args.word c.requires.range c.requires.word c.requires.absent)))

pub returns-then-get-word : goal.returns-then-get-word
returns-then-get-word c =
    let m = c.args.image.now in
    let room = has_room (state m) c.args.word c.requires.range c.requires.word c.requires.absent in
    let seat = at_seat m c.layout-layout.result c.number-number_at.result (tx_log.number c.length-end.result) c.layout-layout.ensures.layout c.number-number_at.ensures in
    let is = seat ∙ ap (λ (end : ℕ). address m.n (tx_log.number end)) c.length-end.ensures in
    adds_number m c.args.word c.args.value c.number-number_at.result room is
    (λ e. c.if-get-word.true (c.get.ensures ∙ word_is m c.number-number_at.result (tx_log.number (length_in (state m) tx_log)) is (part_seat m.n m.k 3 (length_in (state m) tx_log) (omega arith) room) ∙ e))

pub value-value_at-requires-clause-pair : goal.value-value_at-requires-clause-pair
value-value_at-requires-clause-pair c =
    let room = has_room (state c.args.image.now) c.args.word c.requires.range c.requires.word c.requires.absent in
    search rules

pub get-requires-2 : goal.get-requires-2
get-requires-2 c =
    let m = c.args.image.now in
    let end = c.length-end.result in
    word_inside m.n m.k c.value-value_at.result (tx_log.value end)
    (at_seat m c.layout-layout.result c.value-value_at.result (tx_log.value end) c.layout-layout.ensures.layout c.value-value_at.ensures)
    (part_seat m.n m.k 4 end (omega arith) (rw c.length-end.ensures (has_room (state m) c.args.word c.requires.range c.requires.word c.requires.absent)))

pub returns-then-get-value : goal.returns-then-get-value
returns-then-get-value c =
    let m = c.args.image.now in
    let end = length_in (state m) tx_log in
    let room = has_room (state m) c.args.word c.requires.range c.requires.word c.requires.absent in
    let seat = at_seat m c.layout-layout.result c.number-number_at.result (tx_log.number c.length-end.result) c.layout-layout.ensures.layout c.number-number_at.ensures in
    let number_is = seat ∙ ap (λ (end : ℕ). address m.n (tx_log.number end)) c.length-end.ensures in
    let named = sym (word_is m c.number-number_at.result (tx_log.number end) number_is (part_seat m.n m.k 3 end (omega arith) room)) ∙ sym c.get.ensures ∙ c.if-get-word.false in
    let there = at_seat m c.layout-layout.result c.value-value_at.result (tx_log.value c.length-end.result) c.layout-layout.ensures.layout c.value-value_at.ensures in
    let is = there ∙ ap (λ (end : ℕ). address m.n (tx_log.value end)) c.length-end.ensures in
    adds_value m c.args.word c.args.value c.value-value_at.result room is named
    (λ e. c.if-get-value.true (c.get-2.ensures ∙ word_is m c.value-value_at.result (tx_log.value end) is (part_seat m.n m.k 4 end (omega arith) room) ∙ e))

pub returns : goal.returns
returns c =
    let m = c.args.image.now in
    let end = length_in (state m) tx_log in
    let room = has_room (state m) c.args.word c.requires.range c.requires.word c.requires.absent in
    let seat = at_seat m c.layout-layout.result c.number-number_at.result (tx_log.number c.length-end.result) c.layout-layout.ensures.layout c.number-number_at.ensures in
    let number_is = seat ∙ ap (λ (end : ℕ). address m.n (tx_log.number end)) c.length-end.ensures in
    let named = sym (word_is m c.number-number_at.result (tx_log.number end) number_is (part_seat m.n m.k 3 end (omega arith) room)) ∙ sym c.get.ensures ∙ c.if-get-word.false in
    let there = at_seat m c.layout-layout.result c.value-value_at.result (tx_log.value c.length-end.result) c.layout-layout.ensures.layout c.value-value_at.ensures in
    let value_is = there ∙ ap (λ (end : ℕ). address m.n (tx_log.value end)) c.length-end.ensures in
    let valued = sym (word_is m c.value-value_at.result (tx_log.value end) value_is (part_seat m.n m.k 4 end (omega arith) room)) ∙ sym c.get-2.ensures ∙ c.if-get-value.false in
    adds_length m c.args.word c.args.value (c.length-end.result + 1) (ap (λ (x : ℕ). x + 1) c.length-end.ensures) named valued
