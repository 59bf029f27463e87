-- The marks of a row are legal: a commit is the next record of the serial run, a unit is given up
-- where it clashes with the event that is due, and a task that is done asks nothing. They tell no
-- boot, and accept no posting.
use Rattle.std.proofs.Common.{◌≡◌, ℕ, ◌+◌, ◌-◌, ◌≤◌, List, [], ◌∷◌, ◌++◌, length, take, drop, refl, ap, sym, subst, ◌∙◌, arith, append-nil, length-append, Option, Some, None, false}
use Rattle.std.proofs.lemmas.Grind.{common_steps}
use Rattle.coati_word.specs.declared.mode.Mode.TheVariants as mode
use Rattle.coati_word.specs.declared.reading.Reading.{Reading}
use Rattle.task_syntax.specs.declared.program.Program.{Program}
use Rattle.task_syntax.specs.CourseLaws.{AccessesJoinUp, LastWritesTellTheStore, WrittenWordsAreTold}
use Rattle.task_syntax.specs.Units.{is_inside, transaction_of}
use Rattle.task_check.specs.Accepted.{IsAccepted}
use Rattle.nv_memory.specs.Blank.{mode_word}
use Rattle.nv_memory.specs.State.{State, state}
use Rattle.nv_memory.specs.Words.{current, mode as mode_of}
use Rattle.buffi_sets.specs.Conflict.{IsConflict}
use Rattle.codegen.specs.Bodies.{program_code}
use Rattle.serial_log.specs.declared.abort.AbortOf.{AbortOf}
use Rattle.serial_log.specs.declared.mark.Mark.{Mark}
use Rattle.serial_log.specs.declared.mark.MarkKind.TheVariants.{Abort, Commit, Done}
use Rattle.serial_log.specs.declared.record.Record.{Record}
use Rattle.serial_log.specs.declared.unit.Unit.{Unit as Committed}
use Rattle.serial_log.specs.declared.unit.Unit.TheVariants as unit
use Rattle.serial_log.specs.Aborts.{IsAbortLegal}
use Rattle.serial_log.specs.History.{Past, readings_in, with_mark}
use Rattle.serial_log.specs.Laws.{HistoriesGoOn, LegalMarksStay, MarksJoinUp}
use Rattle.serial_log.specs.Legal.{IsLegalMark}
use Rattle.serial_log.specs.Marks.{boot_times}
use Rattle.serial_log.specs.Postings.{FollowsLost, IsInOrder, Terms}
use Rattle.serial_log.specs.Progresses.{IsOfTasks}
use Rattle.serial_log.specs.SerialRun.{IsUnitNext}
use Rattle.serial_log.specs.Standing.{Standing, after_mark, standing_of}
use Rattle.serial_log.proofs.Records.{records_more}
use Rattle.coati_device.specs.declared.device.Device.{Device}
use Rattle.coati_device.specs.declared.device.Phase.{Phase}
use Rattle.coati_device.specs.declared.device.Phase.TheVariants.{End}
use Rattle.coati_device.specs.Kept.{record_of_event, record_of_unit, unit_of}
use Rattle.coati_device.specs.Laws.{AreCounted, Fits, HoldsItsEvents, Rows}
use Rattle.coati_device.specs.Points.{AreBootsTold, IsFit, IsLegalBy, reads_of}
use Rattle.coati_device.specs.Rows.{Drains, Ends, EndsBottom, has_attempt, head_entry, oldest_posting, tasks_given_up}
use Rattle.coati_device.specs.Rows.IsRow.{applies, undoes, sleeps, empties, unflags, starts, runs, prepares, joins, commits}
use Rattle.coati_device.specs.Rows.IsRow.{empties_entry, starts_bottom, runs_bottom, prepares_event, commits_event}
use Rattle.coati_device.specs.Rows.IsRow.{aborts, prepares_drain, drains}
use Rattle.coati_device.specs.Waits.{first_read}
use Rattle.coati_device.proofs.AbortMarks.{abort_legal}
use Rattle.coati_device.proofs.AwaitedEvents.{oldest_first}
use Rattle.coati_device.proofs.EventRecords.{IsServed, drained_is_served, ended_is_served}
use Rattle.coati_device.proofs.NextUnits.{IsNextUnit, whole_is_next}
use Rattle.coati_device.proofs.UnitGrows.{unit_grown}

-- the record of a unit with these readings, behind those of all others
abbrev recorded : Committed → (tasks posting : ℕ) → (all read : List Reading) → Record
recorded own tasks posting all read = record {
  unit = own;
  tasks = tasks;
  posting = posting;
  reads_from = length all;
  reads_len = length read;
}

-- the readings of the last record
last_readings : (all read : List Reading) (own : Committed) (tasks posting : ℕ) →
    readings_in (all ++ read) (recorded own tasks posting all read) ≡ read
last_readings all read own tasks posting = behind all read
  where
    behind : (xs ys : List Reading) → take (length ys) (drop (length xs) (xs ++ ys)) ≡ ys
    behind xs ys = grind (arith, common_steps)

-- the history with its commit
abbrev with_record : Past → Committed → (tasks posting : ℕ) → List Reading → ℕ → Past
with_record past own tasks posting read at = record {
  marks = past.marks ++ record {
    at = at;
    kind = Commit (recorded own tasks posting past.readings read);
  } ∷ [];
  mark_room = past.mark_room - 1;
  readings = past.readings ++ read;
  reading_room = past.reading_room - length read;
}

-- it is the next one of the serial run
abbrev IsNextRecord : Program → Standing → Committed → (tasks posting : ℕ) →
    (all read reads : List Reading) → Type 0
IsNextRecord program standing own tasks posting all read reads =
    IsUnitNext program standing.rest standing.run
    (record { committed = recorded own tasks posting all read; reads = reads }) own

-- the unit of a task is no event
pub is_of_tasks : (own : Option ℕ) (task : ℕ) → IsOfTasks (unit_of own task)
is_of_tasks None task = tt
is_of_tasks (Some tx) task = tt

in_order : (standing : Standing) (own : Committed) → IsOfTasks own → IsInOrder standing.rest 0 own
in_order standing (unit.Task task) of_tasks = tt
in_order standing (unit.Transaction tx) of_tasks = tt
in_order standing (unit.Event event) of_tasks = absurd of_tasks

-- a history without a mark more
later : (terms : Terms) (past : Past) (at behind : ℕ) → at ≤ behind → IsLegalBy terms past at →
    IsLegalBy terms past behind
later terms past at behind le h = record {
  records = h.records;
  legal = h.legal;
  booted = h.booted;
  latest = omega (arith, h.latest);
}

module _ (go_on : HistoriesGoOn) (stay : LegalMarksStay) (terms : Terms) where
  -- a history with a legal commit more
  commit_legal : (past : Past) (own : Committed) (tasks posting : ℕ) (read : List Reading)
      (at : ℕ) → IsLegalBy terms past at →
      IsInOrder (standing_of terms.program past.marks).rest posting own →
      IsNextRecord terms.program (standing_of terms.program past.marks) own tasks posting
      past.readings read read →
      IsLegalBy terms (with_record past own tasks posting read (at + 1)) (at + 1)
  commit_legal past own tasks posting read at h order next =
      let commit : Mark =
      record { at = at + 1; kind = Commit (recorded own tasks posting past.readings read) } in
      let all : List Reading = past.readings ++ read in
      let goes = go_on terms all past.marks commit in
      let within : length past.readings + length read ≤ length all =
      omega (arith, length-append past.readings read) in
      let standing : Standing = standing_of terms.program past.marks in
      let legal : IsLegalMark terms all standing commit = record {
        serial =
            subst (IsNextRecord terms.program standing own tasks posting past.readings read)
            (sym (last_readings past.readings read own tasks posting)) next;
        postings = record {
          in_time = omega (arith, h.latest);
          follows = subst (λ (lost : Option ℕ). FollowsLost standing lost commit)
              (sym h.booted) tt;
          order = order;
        };
        aborts = tt;
        boots = tt;
        end = tt;
      } in
      record {
        records = goes.records
            (records_more past.marks (length past.readings) (length all)
            (omega (arith, within)) h.records) within;
        legal = goes.legal (stay terms past.readings read past.marks h.records h.legal) legal;
        booted = ap (λ (s : Standing). s.lost) goes.standing ∙ h.booted;
        latest = omega (arith, ap (λ (s : Standing). s.latest) goes.standing);
      }

  -- with a task of a transaction done
  done_legal : (past : Past) (task at : ℕ) → IsLegalBy terms past at →
      IsLegalBy terms (with_mark past (record { at = at + 1; kind = Done task })) (at + 1)
  done_legal past task at h =
      let done : Mark = record { at = at + 1; kind = Done task } in
      let goes = go_on terms past.readings past.marks done in
      let standing : Standing = standing_of terms.program past.marks in
      let legal : IsLegalMark terms past.readings standing done = record {
        serial = tt;
        postings = record {
          in_time = omega (arith, h.latest);
          follows = subst (λ (lost : Option ℕ). FollowsLost standing lost done) (sym h.booted) tt;
          order = tt;
        };
        aborts = tt;
        boots = tt;
        end = tt;
      } in
      record {
        records = goes.records h.records tt;
        legal = goes.legal h.legal legal;
        booted = ap (λ (s : Standing). s.lost) goes.standing ∙ h.booted;
        latest = omega (arith, ap (λ (s : Standing). s.latest) goes.standing);
      }

  -- and with a unit given up
  given_up_legal : (past : Past) (aborted : AbortOf) (at : ℕ) → IsLegalBy terms past at →
      IsAbortLegal terms (standing_of terms.program past.marks) aborted →
      IsLegalBy terms (with_mark past (record { at = at + 1; kind = Abort aborted })) (at + 1)
  given_up_legal past aborted at h is =
      let abort : Mark = record { at = at + 1; kind = Abort aborted } in
      let goes = go_on terms past.readings past.marks abort in
      let standing : Standing = standing_of terms.program past.marks in
      let legal : IsLegalMark terms past.readings standing abort = record {
        serial = tt;
        postings = record {
          in_time = omega (arith, h.latest);
          follows = subst (λ (lost : Option ℕ). FollowsLost standing lost abort)
              (sym h.booted) tt;
          order = tt;
        };
        aborts = is;
        boots = tt;
        end = tt;
      } in
      record {
        records = goes.records h.records tt;
        legal = goes.legal h.legal legal;
        booted = ap (λ (s : Standing). s.lost) goes.standing ∙ h.booted;
        latest = omega (arith, ap (λ (s : Standing). s.latest) goes.standing);
      }

  module _ (joins_up : AccessesJoinUp) (lasts : LastWritesTellTheStore)
      (tells : WrittenWordsAreTold) (rules : IsAccepted terms.program) (old : Device)
      (fits : Fits terms.program old) (is_mode : mode_of (state old.image) ≡ mode_word terms.mode)
      (events : HoldsItsEvents terms.program old) (counted : AreCounted terms.program old)
      (h : IsLegalBy terms old.history old.clock) where
    same_history : IsLegalBy terms old.history (old.clock + 1)
    same_history = later terms old.history old.clock (old.clock + 1) (omega arith) h

    abbrev s : State
    s = state old.image

    abbrev standing : Standing
    standing = standing_of terms.program old.history.marks

    abbrev own : Committed
    own = unit_of (transaction_of terms.program (current s)) (current s)

    abbrev read : List Reading
    read = old.unit.items ++ old.attempt.items

    abbrev FitsAt : Phase → Type 0
    FitsAt phase =
        IsFit terms.program (program_code terms.program) old.image (reads_of old) phase standing

    whole_next : (place : ℕ) → Ends old place →
        is_inside terms.program (current s) place ≡ false →
        IsNextUnit terms.program standing own (old.finished + 1) old.history.readings read read
    whole_next place ends outside =
        let fit : FitsAt (End place) = subst FitsAt ends.phase fits in
        let grown =
        unit_grown terms.program (program_code terms.program) old.image (reads_of old) standing
        place fit ends.clear joins_up lasts in
        whole_is_next terms.program old.image (reads_of old) place standing old.history.readings
        fit rules grown outside ends.clear

    abbrev event : ℕ
    event = (head_entry s).event

    served : EndsBottom old →
        IsServed terms.program standing event (oldest_posting old) old.history.readings
        old.attempt.items
    served ends =
        ended_is_served terms.program old.image (reads_of old) standing old.accepted
        old.history.readings (subst FitsAt ends.phase fits) counted

    drained : Drains old →
        IsServed terms.program standing event (oldest_posting old) old.history.readings
        (first_read old.waiting.events)
    drained coming =
        drained_is_served terms.program s standing old.accepted old.history.readings
        old.waiting.events fits.stands fits.waiting counted events coming.mode
        coming.clear.mark coming.held

    given_up : (word : ℕ) → Drains old → IsConflict s (has_attempt old.phase) word →
        IsAbortLegal terms standing (record {
          unit = own;
          tasks = tasks_given_up old;
          posting = oldest_posting old;
          word = word;
        })
    given_up word coming conflict =
        let first =
        oldest_first terms.program s standing old.accepted fits.stands fits.waiting counted
        coming.clear.mark coming.held in
        abort_legal terms old.image (reads_of old) old.phase standing (oldest_posting old) word
        old.waiting.events joins_up lasts tells rules fits events coming.phase coming.clear
        coming.mode is_mode first coming.held conflict

    pub marks_legal : (new : Device) → Rows terms.program old new →
        IsLegalBy terms new.history (old.clock + 1)
    marks_legal new (applies change image is write e) = rw e same_history
    marks_legal new (undoes change image clear is write e) = rw e same_history
    marks_legal new (sleeps choosing halted e) = rw e same_history
    marks_legal new (empties image choosing more some write e) = rw e same_history
    marks_legal new (unflags change image choosing more none buffi is write e) =
        rw e same_history
    marks_legal new (starts cpu choosing more none free start e) = rw e same_history
    marks_legal new (runs before after left image turn phase body clear step e) = rw e same_history
    marks_legal new (prepares place image ends other write e) = rw e same_history
    marks_legal new (joins place image ends there inside write e) =
        rw e (done_legal old.history (current s) old.clock h)
    marks_legal new (commits place image ends there outside write e) =
        rw e (commit_legal old.history own (old.finished + 1) 0 read old.clock h
        (in_order standing own
        (is_of_tasks (transaction_of terms.program (current s)) (current s)))
        (whole_next place ends outside))
    marks_legal new (empties_entry image choosing some write e) = rw e same_history
    marks_legal new (starts_bottom cpu choosing none start e) = rw e same_history
    marks_legal new (runs_bottom before after left image turn phase body clear coming step e) =
        rw e same_history
    marks_legal new (prepares_event image ends other write e) = rw e same_history
    marks_legal new (commits_event image ends there write e) =
        let is = served ends in
        rw e (commit_legal old.history (unit.Event event) 0 (oldest_posting old)
        old.attempt.items old.clock h is.due is.next)
    marks_legal new (aborts word image coming conflict write e) =
        rw e (given_up_legal old.history _ old.clock h (given_up word coming conflict))
    marks_legal new (prepares_drain image free other write e) = rw e same_history
    marks_legal new (drains image free there write e) =
        let is = drained free.drains in
        rw e (commit_legal old.history (unit.Event event) 0 (oldest_posting old)
        (first_read old.waiting.events) old.clock h is.due is.next)

module _ (go_on : HistoriesGoOn) (join : MarksJoinUp) (program : Program) (periods : List ℕ)
    (boots : ℕ) where
  -- any will do: what a history stands for depends on the program alone
  terms : Terms
  terms = record { program = program; mode = mode.Split; handler = 0 }

  -- a mark that is no boot's tells none
  untold : (past new : Past) (mark : Mark) → new.marks ≡ past.marks ++ mark ∷ [] →
      boot_times (mark ∷ []) ≡ [] →
      (after_mark program (standing_of program past.marks) mark).boots
      ≡ (standing_of program past.marks).boots →
      (after_mark program (standing_of program past.marks) mark).last_boot
      ≡ (standing_of program past.marks).last_boot →
      AreBootsTold periods boots program past → AreBootsTold periods boots program new
  unfolding terms
  untold past new mark more none counted last h =
      let standing =
      ap (λ (marks : List Mark). standing_of program marks) more
      ∙ (go_on terms past.readings past.marks mark).standing in
      record {
        times =
            ap boot_times more
            ∙ (join past.marks (mark ∷ [])).boots
            ∙ ap (λ (times : List ℕ). boot_times past.marks ++ times) none
            ∙ append-nil (boot_times past.marks) ∙ h.times;
        counted = ap (λ (s : Standing). s.boots) standing ∙ counted ∙ h.counted;
        last = ap (λ (s : Standing). s.last_boot) standing ∙ last ∙ h.last;
      }

  -- nor does a commit, a task that is done or a unit that is given up
  commit_untold : (past : Past) (committed : Record) (reads : List Reading) (at : ℕ) →
      AreBootsTold periods boots program past → AreBootsTold periods boots program (record {
        marks = past.marks ++ record { at = at; kind = Commit committed } ∷ [];
        mark_room = past.mark_room - 1;
        readings = past.readings ++ reads;
        reading_room = past.reading_room - length reads;
      })
  commit_untold past committed reads at h =
      untold past _ (record { at = at; kind = Commit committed }) refl refl refl refl h

  done_untold : (past : Past) (task at : ℕ) → AreBootsTold periods boots program past →
      AreBootsTold periods boots program (with_mark past (record { at = at; kind = Done task }))
  done_untold past task at h =
      untold past _ (record { at = at; kind = Done task }) refl refl refl refl h

  abort_untold : (past : Past) (aborted : AbortOf) (at : ℕ) →
      AreBootsTold periods boots program past →
      AreBootsTold periods boots program
      (with_mark past (record { at = at; kind = Abort aborted }))
  abort_untold past aborted at h =
      untold past _ (record { at = at; kind = Abort aborted }) refl refl refl refl h

  pub boots_untold : (old new : Device) → Rows program old new →
      AreBootsTold periods boots program old.history →
      AreBootsTold periods boots program new.history
  boots_untold old new (applies change image is write e) h = rw e h
  boots_untold old new (undoes change image clear is write e) h = rw e h
  boots_untold old new (sleeps choosing halted e) h = rw e h
  boots_untold old new (empties image choosing more some write e) h = rw e h
  boots_untold old new (unflags change image choosing more none buffi is write e) h = rw e h
  boots_untold old new (starts cpu choosing more none free start e) h = rw e h
  boots_untold old new (runs before after left image turn phase body clear step e) h = rw e h
  boots_untold old new (prepares place image ends other write e) h = rw e h
  boots_untold old new (joins place image ends there inside write e) h =
      rw e (done_untold old.history (current (state old.image)) (old.clock + 1) h)
  boots_untold old new (commits place image ends there outside write e) h =
      let task = current (state old.image) in
      let read = old.unit.items ++ old.attempt.items in
      rw e (commit_untold old.history
      (record_of_unit (unit_of (transaction_of program task) task) (old.finished + 1)
      (length old.history.readings) (length read)) read (old.clock + 1) h)
  boots_untold old new (empties_entry image choosing some write e) h = rw e h
  boots_untold old new (starts_bottom cpu choosing none start e) h = rw e h
  boots_untold old new (runs_bottom before after left image turn phase body clear coming step e) h =
      rw e h
  boots_untold old new (prepares_event image ends other write e) h = rw e h
  boots_untold old new (commits_event image ends there write e) h =
      rw e (commit_untold old.history
      (record_of_event (head_entry (state old.image)).event (oldest_posting old)
      (length old.history.readings) (length old.attempt.items)) old.attempt.items
      (old.clock + 1) h)
  boots_untold old new (aborts word image coming conflict write e) h =
      rw e (abort_untold old.history _ (old.clock + 1) h)
  boots_untold old new (prepares_drain image free other write e) h = rw e h
  boots_untold old new (drains image free there write e) h =
      rw e (commit_untold old.history
      (record_of_event (head_entry (state old.image)).event (oldest_posting old)
      (length old.history.readings) (length (first_read old.waiting.events)))
      (first_read old.waiting.events) (old.clock + 1) h)

  -- a mark that accepts no posting
  more_counted : (past : Past) (mark : Mark) (accepted : ℕ) →
      (after_mark program (standing_of program past.marks) mark).accepted
      ≡ (standing_of program past.marks).accepted →
      (standing_of program past.marks).accepted ≡ accepted →
      (standing_of program (past.marks ++ mark ∷ [])).accepted ≡ accepted
  unfolding terms
  more_counted past mark accepted same counted =
      ap (λ (s : Standing). s.accepted) (go_on terms past.readings past.marks mark).standing
      ∙ same ∙ counted

  pub none_accepted : (old new : Device) → Rows program old new → AreCounted program old →
      AreCounted program new
  none_accepted old new (applies change image is write e) h = rw e h
  none_accepted old new (undoes change image clear is write e) h = rw e h
  none_accepted old new (sleeps choosing halted e) h = rw e h
  none_accepted old new (empties image choosing more some write e) h = rw e h
  none_accepted old new (unflags change image choosing more none buffi is write e) h = rw e h
  none_accepted old new (starts cpu choosing more none free start e) h = rw e h
  none_accepted old new (runs before after left image turn phase body clear step e) h = rw e h
  none_accepted old new (prepares place image ends other write e) h = rw e h
  none_accepted old new (joins place image ends there inside write e) h =
      rw e (more_counted old.history _ old.accepted refl h)
  none_accepted old new (commits place image ends there outside write e) h =
      rw e (more_counted old.history _ old.accepted refl h)
  none_accepted old new (empties_entry image choosing some write e) h = rw e h
  none_accepted old new (starts_bottom cpu choosing none start e) h = rw e h
  none_accepted old new
      (runs_bottom before after left image turn phase body clear coming step e) h =
      rw e h
  none_accepted old new (prepares_event image ends other write e) h = rw e h
  none_accepted old new (commits_event image ends there write e) h =
      rw e (more_counted old.history _ old.accepted refl h)
  none_accepted old new (aborts word image coming conflict write e) h =
      rw e (more_counted old.history _ old.accepted refl h)
  none_accepted old new (prepares_drain image free other write e) h = rw e h
  none_accepted old new (drains image free there write e) h =
      rw e (more_counted old.history _ old.accepted refl h)
