-- Writing the position behind the head leaves that memory and the attempt fit where the history
-- leads.
use Rattle.std.proofs.Common.{◌≡◌, sym, subst, List, length, refl}
use Rattle.coati_word.specs.declared.reading.Reading.{Reading}
use Rattle.task_syntax.specs.declared.program.Program.{Program}
use Rattle.task_syntax.specs.Course.{Store, accesses}
use Rattle.task_syntax.specs.Names.{tasks}
use Rattle.serial_log.specs.declared.held.Held.{Held}
use Rattle.serial_log.specs.Standing.{Standing, standing_of}
use Rattle.nv_memory.specs.Ring.{held_count}
use Rattle.nv_memory.specs.Seats.{Memory}
use Rattle.nv_memory.specs.StandsFor.{committed_word}
use Rattle.nv_memory.specs.State.{State, put, state}
use Rattle.nv_memory.specs.Words.{mark}
use Rattle.event_buffer.specs.TurnLaws.{prepare_change}
use Rattle.event_buffer.proofs.Turning.{prepares_leave}
use Rattle.commit_log.specs.OpenUnit.{KeepsUnit}
use Rattle.word_code.specs.Code.{Bodies}
use Rattle.codegen.specs.Bodies.{program_code}
use Rattle.coati_device.specs.declared.device.Device.{Device}
use Rattle.coati_device.specs.declared.device.Phase.{Phase}
use Rattle.coati_device.specs.declared.device.Phase.TheVariants.{EndBottom}
use Rattle.coati_device.specs.Attempt.{HasEndedBottom, HasMadeAtHead, IsAtPosting, IsAttempt, course_at}
use Rattle.coati_device.specs.Laws.{Fits}
use Rattle.coati_device.specs.Points.{IsFit, IsMemoryOf, Reads, reads_of}
use Rattle.coati_device.specs.Rows.{EndsBottom}
use Rattle.coati_device.specs.TaskView.{HasWritten}
use Rattle.coati_device.proofs.MemoryWrites.{LeavesAll, fit_written, state_written}
use Rattle.coati_device.proofs.OpenUnits.{open_unit_kept}
use Rattle.coati_device.proofs.UnitGrows.{pointwise}

abbrev prepared : State → State
prepared s = put s (prepare_change s)

preparing_leaves : (program : Program) (m : Memory) → IsMemoryOf program m → mark (state m) ≡ 0 →
    LeavesAll program (state m) (prepared (state m))
preparing_leaves program m is clear =
    let prepares = prepares_leave (state m) is.range clear in
    let sound = prepares.ring.sound in
    let committed = prepares.committed in
    record {
      ranges = record {
        range = sound.range;
        places = sound.places (length (tasks program)) is.places;
        closed = sound.closed is.closed;
        mode = is.mode;
      };
      same = record {
        words = committed.words;
        place = committed.place;
        held = prepares.ring.held;
      };
    }

preparing_unit : (s : State) → KeepsUnit s (prepared s)
preparing_unit s =
    record { log = λ word. refl; flags = λ word low. refl; next = refl }

-- a bottom half that has ended, told of a state
record HasEndedBottomOn (program : Program) (s : State) (rest : List Held)
    (read : List Reading) : Type 0 where
  at : IsAtPosting s rest
  made : HasMadeAtHead s read (accesses (course_at program at.held) (committed_word s))

ended_bottom_on : (program : Program) (m : Memory) (rest : List Held) (read : List Reading) →
    HasEndedBottomOn program (state m) rest read → HasEndedBottom program m rest read
ended_bottom_on program m rest read has = record { at = has.at; made = has.made }

-- as many postings are held
prepared_held : (s : State) → mark s ≡ 0 → held_count (prepared s) ≡ held_count s
prepared_held s clear = rw clear refl

abbrev at_prepared : (s : State) (rest : List Held) → IsAtPosting s rest →
    IsAtPosting (prepared s) rest
at_prepared s rest at = record {
  clear = record { mark = at.clear.mark; doomed = at.clear.doomed };
  events = record {
    mode = at.events.mode;
    closed = at.events.closed;
    held = rw (prepared_held s at.clear.mark) at.events.held;
  };
  held = at.held;
  due = at.due;
}

ended_after_prepare : (program : Program) (m : Memory) (rest : List Held) (read : List Reading) →
    IsMemoryOf program m → HasEndedBottom program m rest read →
    HasEndedBottomOn program (prepared (state m)) rest read
ended_after_prepare program m rest read is has =
    let s = state m in
    let prepares = prepares_leave s is.range has.at.clear.mark in
    let same : committed_word s ≡ committed_word (prepared s) =
    sym (pointwise (committed_word (prepared s)) (committed_word s) prepares.committed.words) in
    record {
      at = at_prepared s rest has.at;
      made = subst
          (λ (base : Store). HasMadeAtHead (prepared s) read
          (accesses (course_at program has.at.held) base))
          same (record { log = has.made.log; reads = has.made.reads });
    }

preparing_fits : (program : Program) (code : Bodies) (m n : Memory) (reads : Reads) (phase : Phase)
    (standing : Standing) → phase ≡ EndBottom → mark (state m) ≡ 0 →
    HasWritten m (prepare_change (state m)) n → IsFit program code m reads phase standing →
    IsFit program code n reads phase standing
preparing_fits program code m n reads phase standing ends clear writes fit =
    let s = state m in
    let change = prepare_change s in
    let rest = standing.rest in
    let read = reads.attempt in
    let ended : HasEndedBottom program m rest read =
    subst (IsAttempt program code m rest read) ends fit.attempt in
    let after = sym (state_written m n change fit.memory.memory writes) in
    let still = ended_bottom_on program n rest read
    (subst (λ (x : State). HasEndedBottomOn program x rest read) after
    (ended_after_prepare program m rest read fit.memory ended)) in
    fit_written program code m n change reads phase standing writes
    (preparing_leaves program m fit.memory clear)
    (open_unit_kept program s (prepared s) standing.run reads.unit reads.finished
    (record {
      unit = preparing_unit s;
      open_same = refl;
      mode_same = refl;
      words_same = refl;
    }) fit.unit)
    (subst (IsAttempt program code n rest read) (sym ends) still) fit

pub prepares_event_keep : (program : Program) (old new : Device) (image : Memory) →
    Fits program old → EndsBottom old →
    HasWritten old.image (prepare_change (state old.image)) image →
    new ≡ record old { image = image } → Fits program new
prepares_event_keep program old new image fit ends writes is =
    subst (Fits program) (sym is)
    (preparing_fits program (program_code program) old.image image (reads_of old) old.phase
    (standing_of program old.history.marks) ends.phase ends.clear.mark writes fit)
