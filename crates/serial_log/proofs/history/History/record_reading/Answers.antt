use Rattle.std.proofs.Common.{◌≡◌, ◌∷◌, ◌++◌, ◌+◌, List, [], length, length-append, arith, ap}
use Rattle.coati_word.specs.declared.reading.Reading.{Reading}
use Rattle.serial_log.specs.History.{Past}
use Rattle.serial_log.proofs.Records.{records_more}
use Rattle.serial_log.proofs.history.History.record_reading.Goals as goal

pub invariant_of-self : goal.invariant_of-self
invariant_of-self c =
    let old = c.self.inside.readings.items in
    let new = old ++ c.args.reading ∷ [] in
    let same : old ≡ c.args.self.now.readings = ap (λ (p : Past). p.readings) c.self.view_is in
    let longer : length new ≡ length old + 1 = omega (arith, length-append old (c.args.reading ∷ [])) in
    rw c.push_reserved.ensures.items (record {
      records = records_more c.self.inside.marks.items (length old) (length new) (omega (arith, longer)) c.self.invariant.records;
      few = omega (arith, longer, ap (λ (rs : List Reading). length rs) same, c.requires.few);
    })
