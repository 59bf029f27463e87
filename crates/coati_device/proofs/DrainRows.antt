-- In buffi the oldest held event is committed between two attempts, or behind one that has ended.
-- What the open unit and the attempt did stays, as the event writes nothing that they have read.
use Rattle.std.proofs.Common.{◌≡◌, ◌==◌, ℕ, ◌+◌, ◌-◌, ◌<◌, List, ◌∷◌, Bool, true, false, Option, length, refl, sym, ap, subst, ◌∙◌, inr}
use Rattle.std.specs.Option.{unwrap_or}
use Rattle.coati_word.specs.declared.ending.Ending.{Ending}
use Rattle.coati_word.specs.declared.reading.Reading.{Reading}
use Rattle.task_syntax.specs.declared.program.Program.{Program}
use Rattle.task_syntax.specs.Course.{Access, Store, accesses, after}
use Rattle.task_syntax.specs.CourseLaws.{AgreeOnShared, LastWritesTellTheStore, SharedReadsDecide}
use Rattle.task_syntax.specs.Names.{tasks}
use Rattle.task_syntax.specs.ProgramLaws.{SharedReadsDecideUnits}
use Rattle.task_syntax.specs.Units.{task_course}
use Rattle.task_syntax.specs.Written.{is_shared, last_written}
use Rattle.nv_memory.specs.Ring.{Entry, held_count, held_entries, held_slots, position_after}
use Rattle.nv_memory.specs.Seats.{Memory}
use Rattle.nv_memory.specs.StandsFor.{committed_word, head_slot}
use Rattle.nv_memory.specs.State.{State, put, set_to, state}
use Rattle.nv_memory.specs.Words.{current, head, head_next, mark, mark_seat, mode, opened, tx_flag}
use Rattle.buffi_sets.specs.Conflict.{HasNoConflict}
use Rattle.event_buffer.specs.TurnLaws.{MarksTakeTheOldest, Takes, prepare_change}
use Rattle.event_buffer.proofs.Turning.{prepares_leave}
use Rattle.commit_log.specs.OpenUnit.{unit_flag}
use Rattle.serial_log.specs.declared.held.Held.{Held}
use Rattle.serial_log.specs.declared.mark.Mark.{Mark}
use Rattle.serial_log.specs.SerialRun.{Stand, behind_event}
use Rattle.serial_log.specs.Standing.{Standing, after_mark, opening, standing_of}
use Rattle.serial_log.proofs.Walks.{walk_push}
use Rattle.word_code.specs.Code.{Bodies}
use Rattle.codegen.specs.Bodies.{program_code}
use Rattle.coati_device.specs.declared.device.Device.{Device}
use Rattle.coati_device.specs.declared.device.Phase.{Phase}
use Rattle.coati_device.specs.declared.device.Phase.TheVariants.{Choose, Run, End, EndBottom}
use Rattle.coati_device.specs.Attempt.{HasEnded, IsAttempt, IsBehindTask, base_word}
use Rattle.coati_device.specs.HeldEvents.{HoldEvents, effect_on}
use Rattle.coati_device.specs.Kept.{with_event}
use Rattle.coati_device.specs.Laws.{AreCounted, Fits, HoldsItsEvents}
use Rattle.coati_device.specs.OpenUnit.{HasFinished, IsUnitPlace, OpenUnitFits, UnitFits, has_unit}
use Rattle.coati_device.specs.Points.{AreHeld, IsFit, IsMemoryOf, Reads, StandsFor, reads_of}
use Rattle.coati_device.specs.Rows.{DrainsFreely, IsBetween, IsClear, has_attempt, head_entry, oldest_posting}
use Rattle.coati_device.specs.TaskView.{HasWritten}
use Rattle.coati_device.specs.Waits.{first_read, without_first}
use Rattle.coati_device.proofs.DrainFrames.{HasDone, attempt_missed, base_agrees, done_on, store_agrees, unit_missed, unit_on}
use Rattle.coati_device.proofs.HeldLogs.{HasOldest, oldest_of}
use Rattle.coati_device.proofs.MarkedMemory.{marked}
use Rattle.coati_device.proofs.MemoryWrites.{HasRanges, LeavesAll, fit_written, memory_written, state_written}
use Rattle.coati_device.proofs.OpenUnits.{LeavesUnit, open_unit_kept}
use Rattle.coati_device.proofs.ServedPostings.{ServesOldest, event_mark, oldest_number, serves_oldest}
use Rattle.coati_device.proofs.UnitGrows.{pointwise}

-- between attempts, or behind one that has ended, the attempt stays where an ended one does
between_stays : (program : Program) (code : Bodies) (m n : Memory) (rest later : List Held)
    (read : List Reading) (phase : Phase) → IsBetween phase →
    ((place : ℕ) → has_attempt phase ≡ true → HasEnded program m read place →
    HasEnded program n read place) →
    IsAttempt program code m rest read phase → IsAttempt program code n later read phase
between_stays program code m n rest later read Choose between stays attempt = tt
between_stays program code m n rest later read (Run cpu left) between stays attempt =
    absurd between
between_stays program code m n rest later read (End place) between stays attempt =
    stays place refl attempt
between_stays program code m n rest later read EndBottom between stays attempt = absurd between

-- an attempt that has ended, told of a state
record HasEndedIn (program : Program) (s : State) (read : List Reading) (place : ℕ)
    : Type 0 where
  at : IsBehindTask program s
  done : HasDone program s (base_word s) read place

ended_in : (program : Program) (m : Memory) (read : List Reading) (place : ℕ) →
    HasEnded program m read place → HasEndedIn program (state m) read place
ended_in program m read place has =
    record { at = has.at; done = record { made = has.made; leads = has.leads } }

ended_again : (program : Program) (n : Memory) (s : State) (read : List Reading) (place : ℕ) →
    state n ≡ s → HasEndedIn program s read place → HasEnded program n read place
ended_again program n s read place is has =
    let there = subst (λ (x : State). HasEndedIn program x read place) (sym is) has in
    record { at = there.at; made = there.done.made; leads = there.done.leads }

-- the position behind the head is written
abbrev prepared : State → State
prepared s = put s (prepare_change s)

preparing_leaves : (program : Program) (m : Memory) → IsMemoryOf program m → mark (state m) ≡ 0 →
    LeavesAll program (state m) (prepared (state m))
preparing_leaves program m is clear =
    let prepares = prepares_leave (state m) is.range clear in
    record {
      ranges = record {
        range = prepares.ring.sound.range;
        places = prepares.ring.sound.places (length (tasks program)) is.places;
        closed = prepares.ring.sound.closed is.closed;
        mode = is.mode;
      };
      same = record {
        words = prepares.committed.words;
        place = prepares.committed.place;
        held = prepares.ring.held;
      };
    }

preparing_unit : (s : State) → LeavesUnit s (prepared s)
preparing_unit s = record {
  unit = record { log = λ word. refl; flags = λ word low. refl; next = refl };
  open_same = refl;
  mode_same = refl;
  words_same = refl;
}

ended_at_prepared : (program : Program) (s : State) (read : List Reading) (place : ℕ) →
    mark s ≡ 0 → HasEndedIn program s read place → HasEndedIn program (prepared s) read place
ended_at_prepared program s read place clear has =
    let same : base_word s ≡ base_word (prepared s) =
    pointwise (base_word s) (base_word (prepared s)) (λ word. rw clear refl) in
    record {
      at = record { mark = has.at.mark; doomed = has.at.doomed; task = has.at.task };
      done =
          subst (λ (base : Store). HasDone program (prepared s) base read place) same (record {
            made = record {
              log = has.done.made.log;
              reads = has.done.made.reads;
              flags = has.done.made.flags;
            };
            leads = has.done.leads;
          });
    }

-- the row of that write
pub prepares_drain_keep : (program : Program) (old new : Device) (image : Memory) →
    Fits program old → DrainsFreely old →
    HasWritten old.image (prepare_change (state old.image)) image →
    new ≡ record old { image = image } → Fits program new
prepares_drain_keep program old new image fit free wrote is =
    let m = old.image in
    let s = state m in
    let code = program_code program in
    let read = old.attempt.items in
    let clear = free.drains.clear.mark in
    let standing = standing_of program old.history.marks in
    let after = state_written m image (prepare_change s) fit.memory.memory wrote in
    subst (Fits program) (sym is)
    (fit_written program code m image (prepare_change s) (reads_of old) old.phase standing wrote
    (preparing_leaves program m fit.memory clear)
    (open_unit_kept program s (prepared s) standing.run old.unit.items old.finished
    (preparing_unit s) fit.unit)
    (between_stays program code m image standing.rest standing.rest read old.phase
    free.drains.phase
    (λ place is_one has. ended_again program image (prepared s) read place after
    (ended_at_prepared program s read place clear (ended_in program m read place has)))
    fit.attempt)
    fit)

-- the mark of an event's commit leaves the open unit
taking_unit : (s : State) → IsClear s → LeavesUnit s (marked s 3)
taking_unit s clear = record {
  unit = record {
    log = λ word. rw clear.mark refl;
    flags = λ word low. rw clear.mark refl;
    next = rw clear.mark refl;
  };
  open_same = rw clear.mark refl;
  mode_same = refl;
  words_same = refl;
}

-- a unit is open at no mark where a transaction is
opened_of : (s : State) → IsClear s → has_unit s ≡ (opened s == 1)
opened_of s clear = rw (clear.mark, clear.doomed) refl

tx_flags_at : (program : Program) (s : State) (stand : Stand) (read : List Reading)
    (finished : ℕ) → mark s ≡ 0 → mode s ≡ 1 →
    (fits : HasFinished program s stand read finished) → (word : ℕ) → word < s.n →
    tx_flag s word ≡ is_shared fits.reached.done word
tx_flags_at program s stand read finished clear buffi fits word low =
    let same : unit_flag s word ≡ tx_flag s word = rw clear refl in
    sym same ∙ fits.flags buffi word low

module _ (lasts : LastWritesTellTheStore) (program : Program) (m : Memory) (reads : Reads)
    (phase : Phase) (standing : Standing) (events : List (List Reading))
    (fit : IsFit program (program_code program) m reads phase standing)
    (clear : IsClear (state m)) (buffi : mode (state m) ≡ 1)
    (free : HasNoConflict (state m) (has_attempt phase))
    (takes : Takes (state m) (marked (state m) 3))
    (has : HasOldest program (state m) (head_slot (state m)) (held_slots (marked (state m) 3))
    standing.rest events standing.run.store) where
  abbrev s : State
  s = state m

  abbrev t : State
  t = marked s 3

  -- what the event did, and the store behind it
  abbrev event : List Access
  event = effect_on program has.held standing.run.store

  abbrev behind : Store
  behind = after event standing.run.store

  unit_agrees : (opened s == 1) ≡ true →
      (fits : HasFinished program s standing.run reads.unit reads.finished) →
      AgreeOnShared fits.reached.done standing.run.store behind
  unit_agrees is_open fits =
      store_agrees lasts s event fits.reached.done standing.run.store has.is.log
      (unit_missed s (has_attempt phase) fit.memory.range free is_open fits.reached.done
      (tx_flags_at program s standing.run reads.unit reads.finished clear.mark buffi fits))

  unit_by : SharedReadsDecideUnits → (is : Bool) → (opened s == 1) ≡ is →
      UnitFits program s standing.run reads.unit reads.finished is →
      UnitFits program s (record (standing.run) { store = behind }) reads.unit reads.finished is
  unit_by decides true is_open fits =
      unit_on decides program s standing.run behind reads.unit reads.finished true
      (unit_agrees is_open) fits
  unit_by decides false shut fits = fits

  -- the open unit did on the store behind the event what it did before
  unit_behind : SharedReadsDecideUnits →
      OpenUnitFits program t (behind_event program standing.run has.held) reads.unit
      reads.finished
  unit_behind decides =
      let open_is = opened_of s clear in
      open_unit_kept program s t (behind_event program standing.run has.held) reads.unit
      reads.finished (taking_unit s clear)
      (subst (UnitFits program s (behind_event program standing.run has.held) reads.unit
      reads.finished) (sym open_is)
      (unit_by decides (opened s == 1) refl
      (subst (UnitFits program s standing.run reads.unit reads.finished) open_is fit.unit)))

  -- and so did the attempt that has ended
  ended_behind : SharedReadsDecide Ending → (read : List Reading) (place : ℕ) →
      has_attempt phase ≡ true → HasEndedIn program s read place → HasEndedIn program t read place
  ended_behind decides read place is_one ended =
      let did = accesses (task_course program (current s)) (base_word s) in
      let agrees : AgreeOnShared did (base_word s) (base_word t) =
      base_agrees s (committed_word t) did
      (attempt_missed s (has_attempt phase) fit.memory.range free is_one did
      (ended.done.made.flags buffi)) takes.words in
      let same = done_on decides program s (base_word s) (base_word t) read place agrees
      ended.done in
      record {
        at = record { mark = inr refl; doomed = clear.doomed; task = ended.at.task };
        done = record {
          made = record {
            log = same.made.log;
            reads = same.made.reads;
            flags = same.made.flags;
          };
          leads = same.leads;
        };
      }

  stands_behind : (served : Standing) →
      ServesOldest program standing served has.held has.more → StandsFor program t served
  stands_behind served serves = record {
    words = λ word.
        takes.words word
        ∙ ap (λ (o : Option ℕ). unwrap_or o (committed_word s word)) (has.is.log word)
        ∙ ap (unwrap_or (last_written event word)) (fit.stands.words word)
        ∙ sym (lasts event standing.run.store word)
        ∙ ap (λ (stand : Stand). stand.store word) (sym serves.run);
    place = takes.place ∙ fit.stands.place ∙ ap (λ (stand : Stand). stand.place) (sym serves.run);
    held =
        let both : AreHeld program (head_entry s ∷ held_entries t) (has.held ∷ has.more) =
        subst (AreHeld program (head_entry s ∷ held_entries t)) has.first
        (subst (λ (entries : List Entry). AreHeld program entries standing.rest) takes.held
        fit.stands.held) in
        subst (AreHeld program (held_entries t)) (sym serves.rest) both.1;
  }

  taken_ranges : HasRanges program t
  taken_ranges = record {
    range = takes.sound.range;
    places = takes.sound.places (length (tasks program)) fit.memory.places;
    closed = takes.sound.closed fit.memory.closed;
    mode = fit.memory.mode;
  }

  -- memory and the attempt fit behind the event
  fit_behind : SharedReadsDecide Ending → SharedReadsDecideUnits → (image : Memory)
      (served : Standing) → IsBetween phase → HasWritten m (set_to mark_seat 3) image →
      ServesOldest program standing served has.held has.more →
      IsFit program (program_code program) image reads phase served
  fit_behind decides units image served between wrote serves =
      let after_mark = state_written m image (set_to mark_seat 3) fit.memory.memory wrote in
      record {
        memory =
            memory_written program m image (set_to mark_seat 3) fit.memory wrote taken_ranges;
        stands = subst (λ (x : State). StandsFor program x served) (sym after_mark)
            (stands_behind served serves);
        waiting = serves.waiting;
        place = subst (λ (stand : Stand). IsUnitPlace program stand.place) (sym serves.run)
            fit.place;
        unit =
            subst (λ (x : State). OpenUnitFits program x served.run reads.unit reads.finished)
            (sym after_mark)
            (subst (λ (stand : Stand). OpenUnitFits program t stand reads.unit reads.finished)
            (sym serves.run) (unit_behind units));
        attempt =
            between_stays program (program_code program) m image standing.rest served.rest
            reads.attempt phase between
            (λ place is_one ended. ended_again program image t reads.attempt place after_mark
            (ended_behind decides reads.attempt place is_one
            (ended_in program m reads.attempt place ended)))
            fit.attempt;
      }

-- the row of an event's commit in buffi
pub drains_keep : MarksTakeTheOldest → LastWritesTellTheStore → SharedReadsDecide Ending →
    SharedReadsDecideUnits → (program : Program) (old new : Device) (image : Memory) →
    Fits program old → HoldsItsEvents program old → AreCounted program old → DrainsFreely old →
    head_next (state old.image) ≡ position_after old.image.k (head (state old.image)) →
    HasWritten old.image (set_to mark_seat 3) image →
    new ≡ record old {
      image = image;
      history = with_event old.history (head_entry (state old.image)).event
          (oldest_posting old) (first_read old.waiting.events) (old.clock + 1);
      waiting = without_first old.waiting;
    } → Fits program new
drains_keep law lasts decides units program old new image fit holds counted free follows wrote is =
    let m = old.image in
    let s = state m in
    let drains = free.drains in
    let standing = standing_of program old.history.marks in
    let takes = law s fit.memory.range drains.clear.mark drains.clear.doomed drains.held follows in
    let has = oldest_of program s (head_slot s) (held_slots (marked s 3)) standing.rest
    old.waiting.events standing.run.store
    (subst (λ (slots : List ℕ). HoldEvents program s slots standing.rest old.waiting.events
    standing.run.store) takes.slots (holds drains.mode)) in
    let number : has.held.number ≡ oldest_posting old =
    oldest_number program standing has.held has.more has.first fit.waiting s fit.stands.held
    ∙ ap (λ (n : ℕ). n + 1 - held_count s) counted in
    let event = (head_entry s).event in
    let from = length old.history.readings in
    let count = length (first_read old.waiting.events) in
    let told : Mark = event_mark event (oldest_posting old) from count (old.clock + 1) in
    let serves = serves_oldest program standing has.held has.more has.first fit.waiting event
    (oldest_posting old) from count (old.clock + 1) number in
    subst (Fits program) (sym is)
    (subst (λ (later : Standing). IsFit program (program_code program) image (reads_of old)
    old.phase later)
    (sym (walk_push (after_mark program) (opening program) old.history.marks told))
    (fit_behind lasts program m (reads_of old) old.phase standing old.waiting.events fit
    drains.clear drains.mode free.free takes has decides units image
    (after_mark program standing told) drains.phase wrote serves))
