-- Sleeping, emptying a log that an attempt before has left, in the entry at the head too, and
-- writing the place behind an ended task leave that memory and the attempt fit where the history
-- leads.
use Rattle.std.proofs.Common.{◌≡◌, ◌≢◌, ◌==◌, ℕ, refl, sym, ap, subst, arith, List, length, inl, inr}
use Rattle.coati_word.specs.declared.reading.Reading.{Reading}
use Rattle.task_syntax.specs.declared.program.Program.{Program}
use Rattle.task_syntax.specs.Course.{accesses, answer}
use Rattle.task_syntax.specs.Names.{tasks}
use Rattle.task_syntax.specs.Units.{place_after, task_course}
use Rattle.task_check.specs.Accepted.{IsAccepted}
use Rattle.serial_log.specs.declared.held.Held.{Held}
use Rattle.serial_log.specs.Standing.{Standing, standing_of}
use Rattle.nv_memory.specs.declared.log.Log.{Log}
use Rattle.nv_memory.specs.declared.log.Log.TheVariants as log
use Rattle.nv_memory.specs.Frames.{KeepsBeside}
use Rattle.nv_memory.specs.InRange.{IsPlace}
use Rattle.nv_memory.specs.Logs.{seats_of}
use Rattle.nv_memory.specs.Seats.{Memory}
use Rattle.nv_memory.specs.State.{Change, State, put, set_to, state}
use Rattle.nv_memory.specs.Words.{current, mark, next_seat}
use Rattle.nv_memory.proofs.Frames.{place_is_free, range_after_free, same_beside}
use Rattle.task_buffer.proofs.Stores.{emptied}
use Rattle.commit_log.specs.OpenUnit.{KeepsUnit}
use Rattle.word_code.specs.Code.{Bodies}
use Rattle.codegen.specs.Bodies.{program_code}
use Rattle.coati_device.specs.declared.device.Device.{Device}
use Rattle.coati_device.specs.declared.device.Phase.{Phase}
use Rattle.coati_device.specs.declared.device.Phase.TheVariants.{Choose, End}
use Rattle.coati_device.specs.Attempt.{HasEnded, HasMade, IsAttempt, IsBehindTask, base_word}
use Rattle.coati_device.specs.BottomView.{head_log}
use Rattle.coati_device.specs.Endings.{MayLead}
use Rattle.coati_device.specs.Endings.MayLead.{halts, goes}
use Rattle.coati_device.specs.Laws.{Fits}
use Rattle.coati_device.specs.OpenUnit.{has_unit}
use Rattle.coati_device.specs.Points.{IsFit, IsMemoryOf, Reads, reads_of}
use Rattle.coati_device.specs.Rows.{Chooses, ChoosesEvent, Ends}
use Rattle.coati_device.specs.TaskView.{HasWritten}
use Rattle.coati_device.proofs.MemoryWrites.{LeavesAll, fit_written, state_written}
use Rattle.coati_device.proofs.OpenUnits.{open_unit_kept}
use Rattle.coati_device.proofs.TaskEndings.{endings_lead}

pub sleeps_keep : (program : Program) (old new : Device) → Fits program old → new ≡ old →
    Fits program new
sleeps_keep program old new fit is = subst (Fits program) (sym is) fit

pub attempt_chosen : (program : Program) (code : Bodies) (m : Memory) (rest : List Held)
    (read : List Reading) (phase : Phase) → phase ≡ Choose →
    IsAttempt program code m rest read phase
attempt_chosen program code m rest read phase is =
    subst (IsAttempt program code m rest read) (sym is) tt

-- A log is emptied. Where no commit is under way and it isn't the transaction log, it is no part of
-- what memory stands for, and none of the open unit.
module _ (own : Log) (other : own ≢ log.Tx) where
  abbrev emptying : Change
  emptying = set_to (seats_of own).length 0

  beside_unit : (s t : State) → mark s ≡ 0 → KeepsBeside own s t → KeepsUnit s t
  beside_unit s t clear beside = record {
    log = λ word. rw (beside.same_mark, clear) (beside.logs log.Tx (λ e. other (sym e)) word);
    flags = λ word low. rw (beside.same_mark, clear)
        (ap (λ (f : ℕ). f == 1) (beside.tx_flags word));
    next = rw (beside.same_mark, clear) beside.same_current;
  }

  beside_open : (s t : State) → KeepsBeside own s t → has_unit t ≡ has_unit s
  beside_open s t beside = rw (beside.same_mark, beside.same_opened, beside.same_doomed) refl

  emptying_leaves : (program : Program) (m : Memory) → IsMemoryOf program m →
      mark (state m) ≡ 0 → LeavesAll program (state m) (put (state m) emptying)
  emptying_leaves program m is clear =
      let s = state m in
      let t = put s emptying in
      let empties = emptied s own is.range in
      let beside = empties.beside in
      let places = is.places in
      let tasks_count = length (tasks program) in
      record {
        ranges = record {
          range = empties.range;
          places = record {
            current = subst (IsPlace tasks_count) (sym beside.same_current) places.current;
            next = subst (IsPlace tasks_count) (sym beside.same_next) places.next;
            first = subst (IsPlace tasks_count) (sym beside.same_first) places.first;
          };
          closed = empties.closed is.closed;
          mode = rw beside.same_mode is.mode;
        };
        same = same_beside s t own beside (λ two. absurd (omega (arith, clear, two)))
            (rw clear (λ taking. absurd cc));
      }

  emptying_fits : (program : Program) (code : Bodies) (m n : Memory) (reads : Reads) (phase : Phase)
      (standing : Standing) → phase ≡ Choose → mark (state m) ≡ 0 → HasWritten m emptying n →
      IsFit program code m reads phase standing → IsFit program code n reads phase standing
  emptying_fits program code m n reads phase standing chooses clear writes fit =
      let s = state m in
      let t = put s emptying in
      let beside = (emptied s own fit.memory.range).beside in
      fit_written program code m n emptying reads phase standing writes
      (emptying_leaves program m fit.memory clear)
      (open_unit_kept program s t standing.run reads.unit reads.finished
      (record {
        unit = beside_unit s t clear beside;
        open_same = beside_open s t beside;
        mode_same = beside.same_mode;
        words_same = beside.words;
      }) fit.unit)
      (attempt_chosen program code n standing.rest reads.attempt phase chooses) fit

-- the log that an attempt before has left
pub empties_keep : (program : Program) (old new : Device) (image : Memory) → Fits program old →
    Chooses old → HasWritten old.image (set_to (seats_of log.Task).length 0) image →
    new ≡ record old { image = image } → Fits program new
empties_keep program old new image fit chooses writes is =
    subst (Fits program) (sym is)
    (emptying_fits log.Task (λ e. absurd cc) program (program_code program) old.image image
    (reads_of old) old.phase (standing_of program old.history.marks) chooses.phase
    chooses.clear.mark writes fit)

-- the log that a bottom half before has left in the entry at the head
pub empties_entry_keep : (program : Program) (old new : Device) (image : Memory) →
    Fits program old → ChoosesEvent old →
    HasWritten old.image (set_to (seats_of (head_log (state old.image))).length 0) image →
    new ≡ record old { image = image } → Fits program new
empties_entry_keep program old new image fit chooses writes is =
    subst (Fits program) (sym is)
    (emptying_fits (head_log (state old.image)) (λ e. absurd cc) program (program_code program)
    old.image image (reads_of old) old.phase (standing_of program old.history.marks) chooses.phase
    chooses.clear.mark writes fit)

-- the place behind an ended task is written
placing_unit : (s : State) (place : ℕ) → mark s ≡ 0 → KeepsUnit s (put s (set_to next_seat place))
placing_unit s place clear = record {
  log = λ word. refl;
  flags = λ word low. refl;
  next = rw clear refl;
}

placing_leaves : (program : Program) (m : Memory) (place : ℕ) → IsMemoryOf program m →
    mark (state m) ≡ 0 → IsPlace (length (tasks program)) place →
    LeavesAll program (state m) (put (state m) (set_to next_seat place))
placing_leaves program m place is clear there = record {
  ranges = record {
    range = range_after_free (state m) next_seat place (place_is_free 2 (inr (inl refl))) is.range;
    places = record { current = is.places.current; next = there; first = is.places.first };
    closed = record {
      empty = is.closed.empty;
      flags = is.closed.flags;
      doomed_mark = is.closed.doomed_mark;
      doomed_place = is.closed.doomed_place;
    };
    mode = is.mode;
  };
  same = record { words = λ word. refl; place = rw clear refl; held = refl };
}

-- an attempt that has ended, told of a state
pub record HasEndedOn (program : Program) (s : State) (read : List Reading) (place : ℕ)
    : Type 0 where
  pub at : IsBehindTask program s
  pub made : HasMade s read (accesses (task_course program (current s)) (base_word s))
  pub leads : place ≡ place_after (answer (task_course program (current s)) (base_word s))

ended_after_place : (program : Program) (m : Memory) (read : List Reading) (ended place : ℕ) →
    HasEnded program m read ended →
    HasEndedOn program (put (state m) (set_to next_seat place)) read ended
ended_after_place program m read ended place has =
    record {
      at = record { mark = has.at.mark; doomed = has.at.doomed; task = has.at.task };
      made = record { log = has.made.log; reads = has.made.reads; flags = has.made.flags };
      leads = has.leads;
    }

pub ended_on : (program : Program) (m : Memory) (read : List Reading) (place : ℕ) →
    HasEndedOn program (state m) read place → HasEnded program m read place
ended_on program m read place has =
    record { at = has.at; made = has.made; leads = has.leads }

leads_to_place : (program : Program) (task place : ℕ) → MayLead program task place →
    IsPlace (length (tasks program)) place
leads_to_place program task place (halts is) = inr is
leads_to_place program task place (goes within outside) = inl within

-- an ended attempt leads to a place
ended_place : (program : Program) (m : Memory) (read : List Reading) (place : ℕ) →
    IsAccepted program → HasEnded program m read place → IsPlace (length (tasks program)) place
ended_place program m read place accepted ended =
    let task = current (state m) in
    leads_to_place program task place
    (subst (MayLead program task) (sym ended.leads)
    (endings_lead program accepted task (base_word (state m))))

placing_fits : (program : Program) (code : Bodies) (m n : Memory) (place : ℕ) (reads : Reads)
    (phase : Phase) (standing : Standing) → IsAccepted program → phase ≡ End place →
    mark (state m) ≡ 0 → HasWritten m (set_to next_seat place) n →
    IsFit program code m reads phase standing → IsFit program code n reads phase standing
placing_fits program code m n place reads phase standing accepted ends clear writes fit =
    let s = state m in
    let t = put s (set_to next_seat place) in
    let read = reads.attempt in
    let ended : HasEnded program m read place =
    subst (IsAttempt program code m standing.rest read) ends fit.attempt in
    let there = ended_place program m read place accepted ended in
    let after = sym (state_written m n (set_to next_seat place) fit.memory.memory writes) in
    let still = ended_on program n read place
    (subst (λ (x : State). HasEndedOn program x read place) after
    (ended_after_place program m read place place ended)) in
    fit_written program code m n (set_to next_seat place) reads phase standing writes
    (placing_leaves program m place fit.memory clear there)
    (open_unit_kept program s t standing.run reads.unit reads.finished
    (record {
      unit = placing_unit s place clear;
      open_same = refl;
      mode_same = refl;
      words_same = refl;
    }) fit.unit)
    (subst (IsAttempt program code n standing.rest read) (sym ends) still) fit

pub prepares_keep : (program : Program) (old new : Device) (place : ℕ) (image : Memory) →
    IsAccepted program → Fits program old → Ends old place →
    HasWritten old.image (set_to next_seat place) image → new ≡ record old { image = image } →
    Fits program new
prepares_keep program old new place image accepted fit ends writes is =
    subst (Fits program) (sym is)
    (placing_fits program (program_code program) old.image image place (reads_of old) old.phase
    (standing_of program old.history.marks) accepted ends.phase ends.clear.mark writes fit)
