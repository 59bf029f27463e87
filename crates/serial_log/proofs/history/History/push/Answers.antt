use Rattle.std.proofs.Common.{◌≡◌, List, length, sym, ap, subst}
use Rattle.coati_word.specs.declared.reading.Reading.{Reading}
use Rattle.serial_log.specs.History.{Past, IsRecordIn}
use Rattle.serial_log.proofs.Records.{records_push}
use Rattle.serial_log.proofs.history.History.push.Goals as goal

pub invariant_of-self : goal.invariant_of-self
invariant_of-self c =
    let same : c.self.inside.readings.items ≡ c.args.self.now.readings = ap (λ (p : Past). p.readings) c.self.view_is in
    rw c.push_reserved.ensures.items (record {
      records = records_push c.self.inside.marks.items _ (length c.self.inside.readings.items) c.self.invariant.records
          (subst (λ (rs : List Reading). IsRecordIn (length rs) c.args.mark.kind) (sym same) c.requires.readings);
      few = c.self.invariant.few;
    })
