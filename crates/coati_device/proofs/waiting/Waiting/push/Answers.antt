use Rattle.std.proofs.Common.{◌≡◌, ◌-◌, ◌++◌, ◌∙◌, List, ◌∷◌, [], ap, arith, drop, length, map}
use Rattle.std.specs.Vec.{vec_capacity, vec_len}
use Rattle.std.proofs.lemmas.List.{drop-append-le}
use Rattle.coati_word.specs.declared.reading.Reading.{Reading}
use Rattle.coati_device.specs.Waits.{Waits, having_read, read_at}
use Rattle.coati_device.proofs.Waitings.{reads_before, waits_are, within_behind}
use Rattle.coati_device.proofs.waiting.Waiting.push.Goals as goal

pub returns : goal.returns
returns c =
    let all = c.self.inside.readings.items in
    let left = drop c.self.inside.gone c.self.inside.spans.items in
    let within =
    within_behind (length all) c.self.inside.gone c.self.inside.spans.items c.self.invariant.0 in
    let events : map (read_at c.push_reserved.new.self.items) left ≡ map (read_at all) left =
    ap (λ (items : List Reading). map (read_at items) left) c.push_reserved.ensures.items
    ∙ reads_before all (c.args.reading ∷ []) left within in
    let made : drop c.self.inside.made c.push_reserved.new.self.items
    ≡ drop c.self.inside.made all ++ c.args.reading ∷ [] =
    ap (drop c.self.inside.made) c.push_reserved.ensures.items
    ∙ drop-append-le c.self.inside.made all (c.args.reading ∷ []) c.self.invariant.1 in
    let len = c.push_reserved.ensures.len in
    let capacity = c.push_reserved.ensures.capacity in
    let room : vec_capacity c.push_reserved.new.self - vec_len c.push_reserved.new.self
    ≡ (vec_capacity c.self.inside.readings - vec_len c.self.inside.readings) - 1 =
    omega (arith, len, capacity) in
    waits_are _ _ _ _ _ _ (vec_capacity c.self.inside.spans - vec_len c.self.inside.spans)
    events made room
    ∙ ap (λ (waits : Waits). having_read waits c.args.reading) c.self.view_is
