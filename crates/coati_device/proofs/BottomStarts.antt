-- The bottom half of the oldest posting starts.
use Rattle.std.proofs.Common.{◌≡◌, ℕ, ◌-◌, List, [], ◌∷◌, length, refl, sym, ap, subst, ◌∙◌, arith}
use Rattle.coati_word.specs.declared.ending.Ending.{Ending}
use Rattle.coati_word.specs.declared.reading.Reading.{Reading}
use Rattle.task_syntax.specs.declared.body.BodyId.TheVariants.{Bottom}
use Rattle.task_syntax.specs.declared.body.Kind.TheVariants as kind
use Rattle.task_syntax.specs.declared.program.Program.{Program}
use Rattle.task_syntax.specs.Cost.{body_cost}
use Rattle.task_syntax.specs.Course.{Course, Store}
use Rattle.task_syntax.specs.Events.{bottom_course, message}
use Rattle.task_check.specs.Accepted.{IsAccepted}
use Rattle.nv_memory.specs.Logs.{IsEmpty, entry_log, log_length}
use Rattle.nv_memory.specs.Seats.{Memory}
use Rattle.nv_memory.specs.StandsFor.{head_slot}
use Rattle.nv_memory.specs.State.{state}
use Rattle.nv_memory.proofs.LogWrites.{empty_of}
use Rattle.serial_log.specs.declared.held.Held.{Held}
use Rattle.serial_log.specs.Postings.{due_posting}
use Rattle.serial_log.specs.Standing.{standing_of}
use Rattle.codegen.specs.Bodies.{program_code}
use Rattle.codegen.specs.ProgramLaws.{BottomHalvesComputeTheirCourse}
use Rattle.word_code.specs.Code.{Bodies, body_words}
use Rattle.word_code.specs.Following.{Computes}
use Rattle.word_cpu.specs.declared.cpu.Cpu.{Cpu}
use Rattle.word_cpu.specs.UnderWay.{IsAtStart, IsUnderWay}
use Rattle.word_cpu.proofs.UnderWay.{starts_under_way}
use Rattle.coati_device.specs.declared.device.Device.{Device}
use Rattle.coati_device.specs.declared.device.Phase.TheVariants.{Run}
use Rattle.coati_device.specs.Attempt.{IsAttempt, IsInBottom, IsRunningIn, course_at}
use Rattle.coati_device.specs.BottomView.{bottom_view, head_log}
use Rattle.coati_device.specs.Kept.{emptied}
use Rattle.coati_device.specs.Laws.{Fits}
use Rattle.coati_device.specs.Points.{IsEntryOf, IsMemoryOf}
use Rattle.coati_device.specs.Rows.{ChoosesEvent, ComesToEvents, IsClear, head_entry, head_message, steps_before_end}
use Rattle.coati_device.proofs.BottomWords.{bottom_at_start, bottom_length}
use Rattle.coati_device.proofs.HeadEntry.{MessagesFit, course_there, event_there, message_at_head, oldest_at_head}
use Rattle.coati_device.proofs.StepsLeft.{bottom_in_bound, in_time_at_start}

-- the code of a bottom half computes a course on a message, on so many words
abbrev BottomComputes : Program → (number count cost : ℕ) → List ℕ → Course Ending → Type 0
BottomComputes program number count cost words course =
    Computes (body_words (program_code program) (Bottom number)) count cost words course

-- the attempt of a machine that runs a bottom half
pub in_bottom : (program : Program) (code : Bodies) (m : Memory) (rest : List Held)
    (read : List Reading) (cpu : Cpu) (most number : ℕ) → cpu.body ≡ Bottom number
    → IsInBottom program code m rest read cpu most
    → IsAttempt program code m rest read (Run cpu most)
in_bottom program code m rest read cpu most number is running =
    subst (IsRunningIn program code m rest read cpu most) (sym is) running

module _ (law : BottomHalvesComputeTheirCourse) (fit : MessagesFit) (program : Program)
    (accepted : IsAccepted program)
    (m : Memory) (cpu : Cpu) (memory : IsMemoryOf program m) (clear : IsClear (state m))
    (events : ComesToEvents (state m))
    (none : log_length (state m) (head_log (state m)) ≡ 0)
    (start : IsAtStart (Bottom (head_entry (state m)).event) (head_message program (state m)) cpu)
  where
    empty_at_head : IsEmpty (state m) (head_log (state m))
    empty_at_head = empty_of (state m) (entry_log (head_slot (state m))) none

    -- the bottom half of the oldest posting runs on the committed words
    starts_for : (rest more : List Held) (held : Held) → rest ≡ held ∷ more
        → IsEntryOf program (head_entry (state m)) held
        → IsInBottom program (program_code program) m rest [] cpu (steps_before_end program)
    starts_for rest more held first is =
        let found = event_there program held.event is.known in
        let event = found.0 in
        let words = message program event held.argument in
        let cost = body_cost program event.bottom kind.Bottom in
        let begins : IsAtStart (Bottom held.event) words cpu =
        subst (λ (number : ℕ). IsAtStart (Bottom number) words cpu) is.event
        (subst (λ (params : List ℕ). IsAtStart (Bottom (head_entry (state m)).event) params cpu)
        (message_at_head program (state m) held event found.1 fit accepted is) start) in
        let computes : BottomComputes program held.event (length (bottom_view.words m)) cost words
        (course_at program held) =
        subst (BottomComputes program held.event (length (bottom_view.words m)) cost words)
        (sym (course_there program (state m) held event found.1))
        (subst (λ (count : ℕ). BottomComputes program held.event count cost words
        (bottom_course program event words)) (sym (bottom_length m ∙ memory.words))
        (law program accepted held.event event found.1 words
        (fit program accepted held.event held.argument event found.1))) in
        record {
          at = record { clear = clear; events = events; held = held; due = ap due_posting first };
          body = begins.body_is;
          done = [];
          made = record { log = empty_at_head; reads = refl };
          left = cost - 1;
          in_time =
              let some = computes.in_time in
              in_time_at_start program cost (omega (arith, some))
              (bottom_in_bound program held.event event found.1);
          under_way =
              subst (λ (base : Store). IsUnderWay bottom_view (program_code program) cpu m
              (cost - 1) (course_at program held) base [])
              (bottom_at_start m clear.mark empty_at_head)
              (starts_under_way bottom_view (program_code program) cpu m (Bottom held.event) words
              cost (cost - 1)
              (course_at program held) computes begins (omega arith));
        }

-- the row of a bottom half's start
pub starts_bottom_keep : BottomHalvesComputeTheirCourse → MessagesFit
    → (program : Program) (old new : Device) (cpu : Cpu)
    → IsAccepted program → Fits program old → ChoosesEvent old
    → log_length (state old.image) (head_log (state old.image)) ≡ 0
    → IsAtStart (Bottom (head_entry (state old.image)).event)
    (head_message program (state old.image)) cpu
    → new ≡ record old {
      phase = Run cpu (steps_before_end program);
      attempt = emptied old.attempt;
    } → Fits program new
starts_bottom_keep law fit program old new cpu accepted fits chooses none start is =
    let rest = (standing_of program old.history.marks).rest in
    let head = oldest_at_head program (state old.image) rest chooses.clear.mark chooses.events.held
    fits.stands.held in
    subst (λ (d : Device). Fits program d) (sym is) (record {
      memory = fits.memory;
      stands = fits.stands;
      waiting = fits.waiting;
      place = fits.place;
      unit = fits.unit;
      attempt =
          in_bottom program (program_code program) old.image rest [] cpu
          (steps_before_end program)
          (head_entry (state old.image)).event start.body_is
          (starts_for law fit program accepted old.image cpu fits.memory chooses.clear
          chooses.events none start rest head.more
          head.held head.first head.is);
    })
