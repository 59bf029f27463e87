-- Readings that are added leave the records before them.
use Rattle.std.proofs.Common.{◌≡◌, ℕ, ◌+◌, ◌≤◌, List, [], ◌∷◌, ◌++◌, length, take, drop, refl, ap, sym, subst, arith}
use Rattle.std.proofs.lemmas.Grind.{common_steps}
use Rattle.coati_word.specs.declared.reading.Reading.{Reading}
use Rattle.serial_log.specs.declared.mark.Mark.{Mark}
use Rattle.serial_log.specs.declared.mark.MarkKind.{MarkKind}
use Rattle.serial_log.specs.declared.mark.MarkKind.TheVariants.{Boot, Posted, Done, Commit, Abort, End}
use Rattle.serial_log.specs.declared.record.Record.{Record}
use Rattle.serial_log.specs.History.{IsRecordIn, AreRecordsIn, readings_in}
use Rattle.serial_log.specs.Marks.{Entry, entries_by, entries}
use Rattle.serial_log.specs.SerialRun.{IsNext}
use Rattle.serial_log.specs.Walk.{Each}
use Rattle.serial_log.specs.Standing.{Standing, after_mark}
use Rattle.serial_log.specs.Postings.{Terms}
use Rattle.serial_log.specs.Legal.{KeepsSerial, IsLegalMark}

-- a record that is there keeps its readings
pub readings_kept : (all more : List Reading) (r : Record) → r.reads_from + r.reads_len ≤ length all → readings_in (all ++ more) r ≡ readings_in all r
readings_kept all more r within = slice_kept all more r.reads_from r.reads_len within
  where
    slice_kept : (xs ys : List Reading) (from count : ℕ) → from + count ≤ length xs → take count (drop from (xs ++ ys)) ≡ take count (drop from xs)
    slice_kept xs ys from count within = grind (arith, common_steps)

entry_kept : (all more : List Reading) (kind : MarkKind) → IsRecordIn (length all) kind → entries_by kind (all ++ more) ≡ entries_by kind all
entry_kept all more (Boot number) within = refl
entry_kept all more (Posted posted) within = refl
entry_kept all more (Done task) within = refl
entry_kept all more (Commit committed) within =
    ap (λ (reads : List Reading). (let entry : Entry = record { committed = committed; reads = reads } in entry) ∷ []) (readings_kept all more committed within)
entry_kept all more (Abort aborted) within = refl
entry_kept all more (End end) within = refl

pub entries_kept : (all more : List Reading) (marks : List Mark) → AreRecordsIn (length all) marks → entries marks (all ++ more) ≡ entries marks all
entries_kept all more [] within = refl
entries_kept all more (mark ∷ later) within = rw (entry_kept all more mark.kind within.0, entries_kept all more later within.1) refl

module _ (terms : Terms) (all more : List Reading) where
  serial_kept : (s : Standing) (kind : MarkKind) → IsRecordIn (length all) kind → KeepsSerial terms.program all s kind → KeepsSerial terms.program (all ++ more) s kind
  serial_kept s (Boot number) within serial = tt
  serial_kept s (Posted posted) within serial = tt
  serial_kept s (Done task) within serial = tt
  serial_kept s (Commit committed) within serial =
      subst (λ (reads : List Reading). IsNext terms.program s.rest s.run (record { committed = committed; reads = reads })) (sym (readings_kept all more committed within)) serial
  serial_kept s (Abort aborted) within serial = tt
  serial_kept s (End end) within serial = tt

  -- legal marks stay legal where readings are added
  pub marks_kept : (s : Standing) (marks : List Mark) → AreRecordsIn (length all) marks →
      Each (after_mark terms.program) (IsLegalMark terms all) s marks → Each (after_mark terms.program) (IsLegalMark terms (all ++ more)) s marks
  marks_kept s [] within each = tt
  marks_kept s (mark ∷ later) within each = (
    record {
      serial = serial_kept s mark.kind within.0 each.0.serial;
      postings = each.0.postings;
      aborts = each.0.aborts;
      boots = each.0.boots;
      end = each.0.end;
    },
    marks_kept (after_mark terms.program s mark) later within.1 each.1,
  )
