use Rattle.std.proofs.Common.{◌≡◌, ◌∙◌, ◌+◌, ◌++◌, ◌≤◌, ℕ, [], List, length, sym, ap, refl, drop, arith}
use Rattle.std.specs.Fmt.{decimal}
use Rattle.std.specs.Char.{is_ascii_digit}
use Rattle.std.proofs.lemmas.List.{append-nil, length-append, length-drop, drop_all}
use Rattle.std.proofs.lemmas.List.Folds.{length-prefix_len}
use Rattle.std.proofs.lemmas.Grind.{common_steps}
use Rattle.trace_text.proofs.Numbers.{number_in-from, number_in-none}
use Rattle.trace_text.proofs.number.number_in.Goals as goal

pub returns-in-Ok-clause-number : goal.returns-in-Ok-clause-number
returns-in-Ok-clause-number c =
    let field = c.args.field.now in
    let number = c.in-Ok.number in
    let cursor = c.read_decimal.new.self in
    let whole : length cursor.bytes.now ≤ cursor.place = omega (arith, ap length c.in-Ok.ensures.text, c.if-cursor-field.true) in
    let spelled : field ≡ decimal number = c.in-Ok.ensures.spelled ∙ ap (λ (rest : List ℕ). decimal number ++ rest) (drop_all cursor.place cursor.bytes.now whole) ∙ append-nil (decimal number) in
    let most : number ≤ c.args.most = grind (arith, common_steps) in
    sym (number_in-from c.args.least c.args.most number field (omega (arith, most, c.ranges.most.fits)) (record { spelled = spelled; least_is = c.if-number-least.true; most_is = most }))

pub returns-in_default-clause-number : goal.returns-in_default-clause-number
returns-in_default-clause-number c = sym (number_in-none c.args.least c.args.most c.args.field.now (λ other is.
    let field = c.args.field.now in
    let cursor = c.read_decimal.new.self in
    let read = c.in-Ok.ensures.read other [] is.most_is refl (is.spelled ∙ sym (append-nil (decimal other))) in
    let same : c.in-Ok.number ≡ other = cc in
    let printed : length (decimal c.in-Ok.number) ≡ length field = ap (λ (n : ℕ). length (decimal n)) same ∙ ap length (sym is.spelled) in
    let text : length cursor.bytes.now ≡ length field = ap length c.in-Ok.ensures.text in
    let split : length field ≡ length (decimal c.in-Ok.number) + length (drop cursor.place cursor.bytes.now) = ap length c.in-Ok.ensures.spelled ∙ length-append (decimal c.in-Ok.number) (drop cursor.place cursor.bytes.now) in
    let left = length-drop cursor.place cursor.bytes.now in
    let moved = c.in-Ok.ensures.moved in
    absurd (c.if-cursor-field.false (omega (arith, length-prefix_len is_ascii_digit field)))))

pub returns-in_default-2-clause-number : goal.returns-in_default-2-clause-number
returns-in_default-2-clause-number c = sym (number_in-none c.args.least c.args.most c.args.field.now (λ other is.
    let read = c.in-Ok.ensures.read other [] is.most_is refl (is.spelled ∙ sym (append-nil (decimal other))) in
    let same : c.in-Ok.number ≡ other = cc in
    absurd (omega (arith, c.if-number-least.false, is.least_is, same))))

pub returns-in_default-3-clause-number : goal.returns-in_default-3-clause-number
returns-in_default-3-clause-number c = sym (number_in-none c.args.least c.args.most c.args.field.now (λ other is.
    let read = c.in_default.ensures.read other [] is.most_is refl (is.spelled ∙ sym (append-nil (decimal other))) in
    absurd cc))
