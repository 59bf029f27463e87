-- A step is a row and the time behind it.
use Rattle.std.proofs.Common.{◌≡◌, ℕ, suc, ◌+◌, ◌-◌, ◌==◌, List, [], ◌∷◌, ◌++◌, length, refl, ap, sym, subst, ◌∙◌, append-nil, append_assoc, Bool, true, false, if◌then◌else◌}
use mathlib.Core.List.{IsPrefix}
use Rattle.coati_word.specs.declared.reading.Reading.{Reading}
use Rattle.task_syntax.specs.declared.program.Program.{Program}
use Rattle.task_check.specs.Accepted.{IsAccepted}
use Rattle.codegen.specs.Bodies.{program_code}
use Rattle.nv_memory.specs.State.{state}
use Rattle.nv_memory.specs.Words.{current}
use Rattle.word_code.specs.Code.{Bodies}
use Rattle.serial_log.specs.declared.mark.MarkKind.TheVariants.{Done}
use Rattle.serial_log.specs.History.{AreRecordsIn, Past, readings_in}
use Rattle.serial_log.specs.Postings.{Terms}
use Rattle.serial_log.proofs.Kept.{readings_kept}
use Rattle.serial_log.proofs.Records.{record_there}
use Rattle.coati_device.specs.declared.device.Device.{Device}
use Rattle.coati_device.specs.Laws.{ArePeriods, AreRecordsGrown, HasStepped, Rows, RowsAcceptNone, RowsKeepEvents, RowsKeepFit, RowsKeepLegal, RowsKeepMode, RowsKeepTurns, RowsLeaveTime, RowsTakeOneRoom, RowsTellNoBoot, TicksKeepRoom, TicksKeepSound}
use Rattle.coati_device.specs.Points.{HasRoomFor, IsSound, IsSoundBy}
use Rattle.coati_device.specs.Rows.{IsStepOf}
use Rattle.coati_device.specs.Rows.IsRow.{applies, undoes, sleeps, empties, unflags, starts, runs, prepares, joins, commits}
use Rattle.coati_device.specs.Rows.IsRow.{empties_entry, starts_bottom, runs_bottom, prepares_event, commits_event}
use Rattle.coati_device.specs.Rows.IsRow.{aborts, prepares_drain, drains}
use Rattle.coati_device.specs.Ticks.{cut, passed, ticked}
use Rattle.coati_device.specs.Waits.{first_read}
use Rattle.coati_device.proofs.Ticking.{boot_at}

-- what stays of a history that grows
record IsLonger (old new : Past) : Type 0 where
  marks : IsPrefix old.marks new.marks
  readings : IsPrefix old.readings new.readings

not_longer : (past : Past) → IsLonger past past
not_longer past = record {
  marks = ([], append-nil past.marks);
  readings = ([], append-nil past.readings);
}

row_longer : (program : Program) (old new : Device) → Rows program old new →
    IsLonger old.history new.history
row_longer program old new (applies change image is write e) = rw e (not_longer old.history)
row_longer program old new (undoes change image clear is write e) = rw e (not_longer old.history)
row_longer program old new (sleeps choosing halted e) = rw e (not_longer old.history)
row_longer program old new (empties image choosing more some write e) =
    rw e (not_longer old.history)
row_longer program old new (unflags change image choosing more none buffi is write e) =
    rw e (not_longer old.history)
row_longer program old new (starts cpu choosing more none free start e) =
    rw e (not_longer old.history)
row_longer program old new (runs before after left image turn phase body clear step e) =
    rw e (not_longer old.history)
row_longer program old new (prepares place image ends other write e) =
    rw e (not_longer old.history)
row_longer program old new (joins place image ends there inside write e) = rw e (record {
  marks = (record { at = old.clock + 1; kind = Done (current (state old.image)) } ∷ [], refl);
  readings = ([], append-nil old.history.readings);
})
row_longer program old new (commits place image ends there outside write e) = rw e (record {
  marks = (_, refl);
  readings = (old.unit.items ++ old.attempt.items, refl);
})
row_longer program old new (empties_entry image choosing some write e) =
    rw e (not_longer old.history)
row_longer program old new (starts_bottom cpu choosing none start e) =
    rw e (not_longer old.history)
row_longer program old new
    (runs_bottom before after left image turn phase body clear events step e) =
    rw e (not_longer old.history)
row_longer program old new (prepares_event image ends other write e) =
    rw e (not_longer old.history)
row_longer program old new (commits_event image ends there write e) =
    rw e (record { marks = (_, refl); readings = (old.attempt.items, refl) })
row_longer program old new (aborts word image coming conflict write e) =
    rw e (record { marks = (_, refl); readings = ([], append-nil old.history.readings) })
row_longer program old new (prepares_drain image free other write e) =
    rw e (not_longer old.history)
row_longer program old new (drains image free there write e) =
    rw e (record { marks = (_, refl); readings = (first_read old.waiting.events, refl) })

tick_longer : (periods : List ℕ) (d : Device) → IsLonger d.history (ticked periods d).history
tick_longer periods d = by (d.until == 1)
  where
    by : (b : Bool) → IsLonger d.history (if b then cut periods d else passed d).history
    by true = record {
      marks = (boot_at (d.clock + 1) (d.boots + 1) ∷ [], refl);
      readings = ([], append-nil d.history.readings);
    }
    by false = not_longer d.history

prefix_on : {A : Type 0} (xs ys zs : List A) → IsPrefix xs ys → IsPrefix ys zs → IsPrefix xs zs
prefix_on xs ys zs (more, e) (others, f) =
    (more ++ others, sym (append_assoc xs more others) ∙ ap (λ (l : List _). l ++ others) e ∙ f)

longer_on : (one two three : Past) → IsLonger one two → IsLonger two three → IsLonger one three
longer_on one two three first second = record {
  marks = prefix_on one.marks two.marks three.marks first.marks second.marks;
  readings = prefix_on one.readings two.readings three.readings first.readings second.readings;
}

-- a record keeps its readings in a history that grows
grown : (old new : Device) →
    AreRecordsIn (length old.history.readings) old.history.marks →
    IsLonger old.history new.history → AreRecordsGrown old new
grown old new records longer = record {
  marks = longer.marks;
  kept = λ committed has.
      let (more, e) = longer.readings in
      ap (λ (all : List Reading). readings_in all committed) (sym e)
      ∙ readings_kept old.history.readings more committed
      (record_there old.history.marks (length old.history.readings) committed has records);
}

-- what time makes of the numbers
record HasTicked (old new : Device) : Type 0 where
  clock : new.clock ≡ old.clock + 1
  steps : new.steps ≡ old.steps
  spare : new.spare ≡ old.spare - 1

has_ticked : (periods : List ℕ) (d : Device) → HasTicked d (ticked periods d)
has_ticked periods d = by (d.until == 1)
  where
    by : (b : Bool) → HasTicked d (if b then cut periods d else passed d)
    by true = record { clock = refl; steps = refl; spare = refl }
    by false = record { clock = refl; steps = refl; spare = refl }

module _ (fit : RowsKeepFit) (mode : RowsKeepMode) (events : RowsKeepEvents)
    (legal : RowsKeepLegal) (turns : RowsKeepTurns) (accepted : RowsAcceptNone)
    (time : RowsLeaveTime) (boots : RowsTellNoBoot) (room : RowsTakeOneRoom)
    (sound : TicksKeepSound) (more_room : TicksKeepRoom) where
  module _ (terms : Terms) (periods : List ℕ) (left : ℕ) (some : ArePeriods periods)
      (rules : IsAccepted terms.program) where
    abbrev code : Bodies
    code = program_code terms.program

    -- what holds between a row and its time
    row_sound : (old acted : Device) → IsSound terms code periods old →
        Rows terms.program old acted → IsSoundBy terms code periods (acted.clock + 1) acted
    row_sound old acted h row =
        let same = time terms.program old acted row in
        record {
          fit = fit terms.program old acted rules h.fit h.events h.accepted row;
          mode = mode terms.program old acted rules h.fit row ∙ h.mode;
          events = events terms.program old acted rules h.fit h.events h.accepted row;
          legal = rw same.clock
              (legal terms old acted rules h.fit h.mode h.events h.accepted h.legal row);
          turns = turns terms.program old acted rules h.fit h.accepted h.turns row;
          accepted = accepted terms.program old acted row h.accepted;
          timed = rw (same.clock, same.boots, same.until) h.timed;
          boots = rw same.boots (boots terms.program periods old.boots old acted row h.boots);
        }

    behind_row : (old acted : Device) → IsSound terms code periods old →
        HasRoomFor (suc left) periods old → Rows terms.program old acted →
        HasStepped terms periods left old
        (ticked periods (record acted { steps = acted.steps + 1 }))
    behind_row old acted h enough row =
        let same = time terms.program old acted row in
        let d : Device = record acted { steps = acted.steps + 1 } in
        let s = row_sound old acted h row in
        let counted : IsSoundBy terms code periods (d.clock + 1) d =
        record {
          fit = s.fit;
          mode = s.mode;
          events = s.events;
          legal = s.legal;
          turns = s.turns;
          accepted = s.accepted;
          timed = s.timed;
          boots = s.boots;
        } in
        let r = room terms.program left periods old acted row enough in
        let counted_room : HasRoomFor left periods d =
        record {
          marks = r.marks;
          attempt = r.attempt;
          unit = r.unit;
          waiting = r.waiting;
          places = r.places;
          records = r.records;
          few = r.few;
        } in
        let ticks = has_ticked periods d in
        let longer = longer_on old.history acted.history (ticked periods d).history
        (row_longer terms.program old acted row) (tick_longer periods d) in
        record {
          sound = sound terms periods d some rules counted;
          room = more_room left periods d counted.timed counted_room;
          clock = ticks.clock ∙ ap (λ (n : ℕ). n + 1) same.clock;
          steps = ticks.steps ∙ ap (λ (n : ℕ). n + 1) same.steps;
          spare = ticks.spare ∙ ap (λ (n : ℕ). n - 1) same.spare;
          grows = grown old (ticked periods d) h.legal.records longer;
        }

    pub step_sound : (old new : Device) → IsSound terms code periods old →
        HasRoomFor (suc left) periods old → IsStepOf terms.program code periods old new →
        HasStepped terms periods left old new
    step_sound old new h enough step =
        subst (HasStepped terms periods left old) (sym step.time)
        (behind_row old step.acted h enough step.row)
