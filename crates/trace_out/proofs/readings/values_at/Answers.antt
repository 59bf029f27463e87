use Rattle.std.proofs.Common.{◌≡◌, ◌∙◌, ◌+◌, ◌-◌, ◌++◌, ◌∷◌, [], ℕ, suc, List, Some, ap, sym, arith, refl}
use Rattle.trace_out.specs.LineReading.{in_front, value_at, values_at}
use Rattle.trace_out.proofs.Lists.{prepended, prepended-more}
use Rattle.trace_out.proofs.readings.values_at.Goals as goal

next-value : (count value : ℕ) (text rest : List ℕ) → value_at text ≡ Some (value, rest)
    → values_at (suc count) text ≡ in_front value (values_at count rest)
unfolding values_at
next-value count value text rest read = rw read refl

pub loop-preserved : goal.loop-preserved
loop-preserved c =
    let before = c.loop.values in
    let value = c.in-Some.value in
    let rest = c.in-Some.rest.now in
    let left = c.loop.left.now in
    let count = c.args.count - (c.loop.counter + 1) in
    let here : value_at left ≡ Some (value, rest) = sym c.in-Some.ensures in
    let pushed : c.push.new.self ≡ before ++ value ∷ [] = c.in_ok-push-in-Some.ensures.ok in
    let next : suc count ≡ c.args.count - c.loop.counter = omega (arith, c.loop-test.true) in
    ap (λ (v : List ℕ). prepended v (values_at count rest)) pushed ∙ prepended-more before value
    (values_at count rest)
    ∙ ap (prepended before) (sym (next-value count value left rest here)
    ∙ ap (λ (n : ℕ). values_at n left) next) ∙ c.loop.invariant
