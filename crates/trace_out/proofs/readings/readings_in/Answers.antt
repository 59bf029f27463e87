use Rattle.std.proofs.Common.{◌≡◌, ◌∙◌, ◌++◌, ◌∷◌, [], ◌<◌, length, List, None, Some, ap, sym, arith}
use Rattle.std.proofs.lemmas.Grind.{common_steps}
use Rattle.std.proofs.lemmas.List.{append-nil, length-append}
use Rattle.coati_word.specs.declared.reading.Reading.{Reading}
use Rattle.trace_out.specs.LineReading.{reading_at, readings_in}
use Rattle.trace_out.proofs.Lengths.{readings_in-more, readings_in-nil, readings_in-none}
use Rattle.trace_out.proofs.Lists.{nil_from_length, prepended, prepended-more}
use Rattle.trace_out.proofs.readings.readings_in.Goals as goal

pub loop-left-preserved : goal.loop-left-preserved
loop-left-preserved c =
    let program = c.args.checked.now in
    let left = c.loop-left.left.now in
    let before = c.loop-left.readings in
    let reading = c.in-Some.reading in
    let rest = c.in-Some.rest.now in
    let some : 0 < length left = grind (arith, common_steps) in
    let here : reading_at program left ≡ Some (reading, rest) = sym c.in-Some.ensures.reading in
    let pushed : c.push.new.self ≡ before ++ reading ∷ [] = c.in_ok-push-in-Some.ensures.ok in
    record {
      told =
          ap (λ (r : List Reading). prepended r (readings_in program rest)) pushed
          ∙ prepended-more before reading (readings_in program rest)
          ∙ ap (prepended before) (sym (readings_in-more program left (reading, rest) some here))
          ∙ c.loop-left.invariant.told;
      few = omega (
        arith,
        ap length pushed,
        length-append before (reading ∷ []),
        c.in-Some.ensures.shorter,
        c.loop-left.invariant.few,
      );
    }

pub returns-in-None-clause-readings : goal.returns-in-None-clause-readings
returns-in-None-clause-readings c =
    let program = c.args.checked.now in
    let left = c.loop-left.left.now in
    let some : 0 < length left = grind (arith, common_steps) in
    let none : reading_at program left ≡ None = sym c.in-None.ensures.reading in
    sym (ap (prepended c.loop-left.readings) (readings_in-none program left some none))
    ∙ c.loop-left.invariant.told

pub returns-clause-readings : goal.returns-clause-readings
returns-clause-readings c =
    let program = c.args.checked.now in
    let left = c.loop-left.left.now in
    let before = c.loop-left.readings in
    let end : left ≡ [] = nil_from_length left (grind (arith, common_steps)) in
    ap Some (sym (append-nil before))
    ∙ sym (ap (prepended before) (ap (readings_in program) end ∙ readings_in-nil program))
    ∙ c.loop-left.invariant.told
