-- What a step takes of the room of the observer's lists.
use Rattle.std.proofs.Common.{◌≡◌, ℕ, suc, ◌+◌, ◌≤◌, ◌==◌, List, [], ◌∷◌, ◌++◌, length, arith, length-append, refl, ap, Bool, true, false, Some, None, if◌then◌else◌}
use Rattle.std.proofs.lemmas.Bool.Decides.{nat_tests}
use Rattle.coati_word.specs.declared.reading.Reading.{Reading}
use Rattle.task_syntax.specs.declared.program.Program.{Program}
use Rattle.serial_log.specs.History.{Past}
use Rattle.word_cpu.specs.declared.turn.Turn.{Turn}
use Rattle.word_cpu.specs.declared.turn.Turn.TheVariants.{Went, Storing, Ended}
use Rattle.coati_device.specs.declared.device.Device.{Device}
use Rattle.coati_device.specs.Kept.{Kept, after_turn, emptied}
use Rattle.coati_device.specs.Laws.{Rows}
use Rattle.coati_device.specs.Points.{HasRoomFor, IsTimed}
use Rattle.coati_device.specs.Rows.IsRow.{applies, undoes, sleeps, empties, unflags, starts, runs, prepares, joins, commits}
use Rattle.coati_device.specs.Rows.IsRow.{empties_entry, starts_bottom, runs_bottom, prepares_event, commits_event}
use Rattle.coati_device.specs.Rows.IsRow.{aborts, prepares_drain, drains}
use Rattle.coati_device.specs.Ticks.{ticked, cut, passed}
use Rattle.coati_device.specs.Waits.{Waits, behind_first, count_all, first_read, waiting_count}
use Rattle.coati_device.proofs.Times.{boots_low}

-- the readings that wait are those of the oldest event and those behind it
first_counted : (events : List (List Reading)) →
    count_all events ≡ length (first_read events) + count_all (behind_first events)
first_counted [] = refl
first_counted (read ∷ more) = refl

-- the room of the attempt after a step in which it reads at most once
record IsAfterOne (steps : ℕ) (old new : Kept) : Type 0 where
  room : steps ≤ new.room
  items : length new.items ≤ length old.items + 1

after_one : (steps : ℕ) (kept : Kept) (turn : Turn) → suc steps ≤ kept.room →
    IsAfterOne steps kept (after_turn kept turn)
after_one steps kept (Went None) some = record { room = omega arith; items = omega arith }
after_one steps kept (Went (Some reading)) some =
    record { room = omega arith; items = omega (arith, length-append kept.items (reading ∷ [])) }
after_one steps kept Storing some = record { room = omega arith; items = omega arith }
after_one steps kept (Ended ending) some = record { room = omega arith; items = omega arith }

module _ (steps : ℕ) (periods : List ℕ) (old : Device)
    (h : HasRoomFor (suc steps) periods old) where
  -- a step without a mark
  no_mark : (new : Device) → new.boots ≡ old.boots → new.history ≡ old.history →
      new.unit ≡ old.unit → new.waiting ≡ old.waiting →
      IsAfterOne steps old.attempt new.attempt → HasRoomFor steps periods new
  no_mark new boots history unit waiting one =
      let unit_room : new.unit.room ≡ old.unit.room = ap (λ (kept : Kept). kept.room) unit in
      let finished : length new.unit.items ≡ length old.unit.items =
      ap (λ (kept : Kept). length kept.items) unit in
      let room : new.waiting.room ≡ old.waiting.room = ap (λ (w : Waits). w.room) waiting in
      let places : new.waiting.places ≡ old.waiting.places =
      ap (λ (w : Waits). w.places) waiting in
      let count : waiting_count new.waiting ≡ waiting_count old.waiting =
      ap (λ (w : Waits). waiting_count w) waiting in
      let marks : new.history.mark_room ≡ old.history.mark_room =
      ap (λ (past : Past). past.mark_room) history in
      let records : new.history.reading_room ≡ old.history.reading_room =
      ap (λ (past : Past). past.reading_room) history in
      let all : length new.history.readings ≡ length old.history.readings =
      ap (λ (past : Past). length past.readings) history in
      record {
        marks = omega (arith, h.marks);
        attempt = one.room;
        unit = omega (arith, h.unit, one.items);
        waiting = omega (arith, h.waiting);
        places = omega (arith, h.places);
        records = omega (arith, h.records, one.items);
        few = omega (arith, h.few, one.items);
      }

  same_attempt : IsAfterOne steps old.attempt old.attempt
  same_attempt = record { room = omega (arith, h.attempt); items = omega arith }

  no_attempt : IsAfterOne steps old.attempt (emptied old.attempt)
  no_attempt = record { room = omega (arith, h.attempt); items = omega arith }

  pub room_left : (program : Program) (new : Device) → Rows program old new →
      HasRoomFor steps periods new
  room_left program new (applies change image is write e) =
      rw e (no_mark _ refl refl refl refl same_attempt)
  room_left program new (undoes change image clear is write e) =
      rw e (no_mark _ refl refl refl refl same_attempt)
  room_left program new (sleeps choosing halted e) =
      rw e (no_mark _ refl refl refl refl same_attempt)
  room_left program new (empties image choosing more some write e) =
      rw e (no_mark _ refl refl refl refl same_attempt)
  room_left program new (unflags change image choosing more none buffi is write e) =
      rw e (no_mark _ refl refl refl refl same_attempt)
  room_left program new (starts cpu choosing more none free start e) =
      rw e (no_mark _ refl refl refl refl no_attempt)
  room_left program new (runs before after left image turn phase body clear step e) =
      rw e (no_mark _ refl refl refl refl (after_one steps old.attempt turn h.attempt))
  room_left program new (prepares place image ends other write e) =
      rw e (no_mark _ refl refl refl refl same_attempt)
  room_left program new (joins place image ends there inside write e) =
      let both = length-append old.unit.items old.attempt.items in
      rw e (record {
        marks = omega (arith, h.marks);
        attempt = omega (arith, h.attempt);
        unit = omega (arith, h.unit);
        waiting = omega (arith, h.waiting);
        places = omega (arith, h.places);
        records = omega (arith, h.records, both);
        few = omega (arith, h.few, both);
      })
  room_left program new (commits place image ends there outside write e) =
      let both = length-append old.unit.items old.attempt.items in
      let all = length-append old.history.readings (old.unit.items ++ old.attempt.items) in
      rw e (record {
        marks = omega (arith, h.marks);
        attempt = omega (arith, h.attempt);
        unit = omega (arith, h.unit);
        waiting = omega (arith, h.waiting);
        places = omega (arith, h.places);
        records = omega (arith, h.records, both);
        few = omega (arith, h.few, all, both);
      })
  room_left program new (empties_entry image choosing some write e) =
      rw e (no_mark _ refl refl refl refl same_attempt)
  room_left program new (starts_bottom cpu choosing none start e) =
      rw e (no_mark _ refl refl refl refl no_attempt)
  room_left program new (runs_bottom before after left image turn phase body clear events step e) =
      rw e (no_mark _ refl refl refl refl (after_one steps old.attempt turn h.attempt))
  room_left program new (prepares_event image ends other write e) =
      rw e (no_mark _ refl refl refl refl same_attempt)
  room_left program new (commits_event image ends there write e) =
      let all = length-append old.history.readings old.attempt.items in
      rw e (record {
        marks = omega (arith, h.marks);
        attempt = omega (arith, h.attempt);
        unit = omega (arith, h.unit);
        waiting = omega (arith, h.waiting);
        places = omega (arith, h.places);
        records = omega (arith, h.records);
        few = omega (arith, h.few, all);
      })
  -- what the unit and the attempt read is dropped
  room_left program new (aborts word image coming conflict write e) =
      rw e (record {
        marks = omega (arith, h.marks);
        attempt = omega (arith, h.attempt);
        unit = omega (arith, h.unit);
        waiting = omega (arith, h.waiting);
        places = omega (arith, h.places);
        records = omega (arith, h.records);
        few = omega (arith, h.few);
      })
  room_left program new (prepares_drain image free other write e) =
      rw e (no_mark _ refl refl refl refl same_attempt)
  -- what the event read goes from those that wait to the records
  room_left program new (drains image free there write e) =
      let first = first_counted old.waiting.events in
      let all = length-append old.history.readings (first_read old.waiting.events) in
      rw e (record {
        marks = omega (arith, h.marks);
        attempt = omega (arith, h.attempt);
        unit = omega (arith, h.unit);
        waiting = omega (arith, h.waiting);
        places = omega (arith, h.places);
        records = omega (arith, h.records, first);
        few = omega (arith, h.few, first, all);
      })

module _ (steps : ℕ) (periods : List ℕ) (d : Device)
    (timed : IsTimed periods d.clock d.boots d.until) (h : HasRoomFor steps periods d) where
  room_by : (b : Bool) → (d.until == 1) ≡ b →
      HasRoomFor steps periods (if b then cut periods d else passed d)
  room_by true now =
      let one : d.until ≡ 1 = grind (arith, nat_tests) in
      let low = boots_low periods d.clock d.boots d.until timed one in
      record {
        marks = omega (arith, h.marks, low);
        attempt = h.attempt;
        unit = h.unit;
        waiting = h.waiting;
        places = h.places;
        records = h.records;
        few = h.few;
      }
  room_by false later = record {
    marks = h.marks;
    attempt = h.attempt;
    unit = h.unit;
    waiting = h.waiting;
    places = h.places;
    records = h.records;
    few = h.few;
  }

  -- a boot has room of its own
  pub room_ticked : HasRoomFor steps periods (ticked periods d)
  room_ticked = room_by (d.until == 1) refl
