use Rattle.std.proofs.Common.{◌≡◌, ◌+◌, ◌-◌, ◌∙◌, List, ap, arith, drop, length, length-drop, map, take}
use Rattle.std.proofs.lemmas.List.{take_rest}
use Rattle.coati_device.specs.declared.waiting.Span.{Span}
use Rattle.coati_device.specs.Waits.{count_all, read_at, waiting_count}
use Rattle.coati_device.proofs.Waitings.{lengths, lengths_are, within_behind}
use Rattle.coati_device.proofs.waiting.Waiting.count.Goals as goal

pub loop-span-init : goal.loop-span-init
loop-span-init c =
    let all = c.self.inside.readings.items in
    let spans = c.self.inside.spans.items in
    let left = drop c.self.inside.gone spans in
    let count = lengths_are all left
    (within_behind (length all) c.self.inside.gone spans c.self.invariant.0) in
    let made = length-drop c.self.inside.made all in
    let total : count_all (map (read_at all) left) + length (drop c.self.inside.made all)
    ≡ waiting_count c.args.self.now = ap waiting_count c.self.view_is in
    let items : take (length c.deref.result.now - c.self.inside.gone)
    (drop c.self.inside.gone c.deref.result.now) ≡ left =
    ap (λ (list : List Span). take (length list - c.self.inside.gone)
    (drop c.self.inside.gone list)) c.deref.ensures.value
    ∙ take_rest spans c.self.inside.gone in
    let same = ap lengths items in
    let len = c.len.ensures in
    omega (arith, count, made, total, len, same)
