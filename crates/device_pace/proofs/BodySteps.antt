-- The machine makes a step in a task or in a bottom half.
use Rattle.std.proofs.Common.{◌≡◌, ◌==◌, ℕ, ◌-◌, ◌≤◌, refl, sym, ap, ◌∙◌, arith}
use Rattle.coati_word.specs.declared.ending.Ending.{Ending}
use Rattle.coati_word.specs.declared.mode.Mode.{Mode}
use Rattle.task_syntax.specs.declared.body.BodyId.TheVariants.{Bottom, Task}
use Rattle.task_syntax.specs.declared.program.Program.{Program}
use Rattle.task_syntax.specs.CourseLaws.{AccessesJoinUp, CoursesUnderWayGoOn}
use Rattle.task_syntax.specs.Units.{place_after, task_course}
use Rattle.nv_memory.specs.declared.log.Log.TheVariants as log
use Rattle.nv_memory.specs.Ring.{held_count}
use Rattle.nv_memory.specs.Seats.{Memory}
use Rattle.nv_memory.specs.StandsFor.{committed_word}
use Rattle.nv_memory.specs.State.{State, state}
use Rattle.nv_memory.specs.Words.{current, next}
use Rattle.serial_log.specs.Standing.{standing_of}
use Rattle.buffi_sets.specs.Flags.{FlagWritesSetOneFlag}
use Rattle.task_buffer.specs.StoreLaws.{StoresSetTheValue}
use Rattle.codegen.specs.Bodies.{program_code}
use Rattle.word_code.specs.FollowingLaws.{FollowingGoesOn}
use Rattle.word_code.specs.Machine.{move_of}
use Rattle.word_cpu.specs.declared.cpu.Cpu.{Cpu}
use Rattle.word_cpu.specs.declared.turn.Turn.{Turn}
use Rattle.word_cpu.specs.declared.turn.Turn.TheVariants.{Went, Storing, Ended}
use Rattle.word_cpu.specs.Turning as turning
use Rattle.word_cpu.specs.Turning.{state_of}
use Rattle.word_cpu.specs.UnderWay.{ComesOn}
use Rattle.word_cpu.proofs.OnCourse.{can_step, steps_along}
use Rattle.word_cpu.proofs.UnderWay.{steps_under_way}
use Rattle.coati_device.specs.declared.device.Device.{Device}
use Rattle.coati_device.specs.declared.device.Phase.{Phase}
use Rattle.coati_device.specs.declared.device.Phase.TheVariants.{Run, End, EndBottom}
use Rattle.coati_device.specs.Attempt.{IsInBottom, IsRunning, base_word, course_at}
use Rattle.coati_device.specs.BottomView.{bottom_view}
use Rattle.coati_device.specs.Kept.{after_turn}
use Rattle.coati_device.specs.Laws.{Fits}
use Rattle.coati_device.specs.OpenUnit.{has_unit}
use Rattle.coati_device.specs.Rows.{IsClear, head_entry, phase_after, phase_of_bottom}
use Rattle.coati_device.specs.TaskView.{task_view}
use Rattle.coati_device.proofs.Attempts.{running_in, running_of}
use Rattle.coati_device.proofs.OpenedUnits.{move_opens_none}
use Rattle.coati_device.proofs.TaskWrites.{IsReadyForSteps, LeavesAllElse, makes_more}
use Rattle.coati_pace.specs.Acts.{IsStep}
use Rattle.coati_pace.specs.Acts.IsStep.{runs, ends, runs_bottom, ends_bottom}
use Rattle.coati_pace.specs.Effort.{shape_of}
use Rattle.device_pace.specs.Effort.{effort_at, effort_of, is_prepared, place_behind, stage_in, writes_under_way}
use Rattle.device_pace.proofs.Places.{clear_writes, reads, same_place}
use Rattle.device_pace.proofs.Standing.{held_as_told}

-- no write is under way behind the step either, and as many are held at the same place
record Stays (s t : State) : Type 0 where
  before : writes_under_way s ≡ 0
  after : writes_under_way t ≡ 0
  held : held_count t ≡ held_count s
  place : place_behind t ≡ place_behind s

stays_else : (s t : State) → IsClear s → LeavesAllElse s t → Stays s t
stays_else s t clear stays = record {
  before = clear_writes s clear.mark clear.doomed;
  after = clear_writes t (stays.same_mark ∙ clear.mark) (stays.same_doomed ∙ clear.doomed);
  held = stays.same_held;
  place = same_place s t (rw (stays.same_mark, stays.same_opened, stays.same_doomed) refl)
      stays.keeps.meaning.place;
}

module _ (program : Program) (m : Mode) (s t : State) (phase : Phase) (before after : Cpu)
    (left : ℕ) (is : phase ≡ Run before left) (same : after.body ≡ before.body)
    (stays : Stays s t) where
  module _ (task : ℕ) (body : before.body ≡ Task task) where
    goes_on : 1 ≤ left → IsStep (shape_of program) m (effort_at s phase)
        (effort_at t (Run after (left - 1)))
    goes_on some =
        runs (held_count s) left (left - 1) (place_behind s) (omega (arith, some))
        (reads s phase (Run before left) 0 _ _ _ is stays.before refl refl
        (ap (stage_in left) body))
        (reads t (Run after (left - 1)) (Run after (left - 1)) 0 _ _ _ refl stays.after stays.held
        stays.place (ap (stage_in (left - 1)) (same ∙ body)))

    comes_to_end : (place : ℕ) → IsStep (shape_of program) m (effort_at s phase)
        (effort_at t (End place))
    comes_to_end place =
        ends (held_count s) left (place_behind s) (next t == place) (is_prepared t)
        (reads s phase (Run before left) 0 _ _ _ is stays.before refl refl
        (ap (stage_in left) body))
        (reads t (End place) (End place) 0 _ _ _ refl stays.after stays.held stays.place refl)

  module _ (event : ℕ) (body : before.body ≡ Bottom event) where
    goes_on_bottom : 1 ≤ left → IsStep (shape_of program) m (effort_at s phase)
        (effort_at t (Run after (left - 1)))
    goes_on_bottom some =
        runs_bottom (held_count s) left (left - 1) (place_behind s) (omega (arith, some))
        (reads s phase (Run before left) 0 _ _ _ is stays.before refl refl
        (ap (stage_in left) body))
        (reads t (Run after (left - 1)) (Run after (left - 1)) 0 _ _ _ refl stays.after stays.held
        stays.place (ap (stage_in (left - 1)) (same ∙ body)))

    comes_to_end_bottom : IsStep (shape_of program) m (effort_at s phase) (effort_at t EndBottom)
    comes_to_end_bottom =
        ends_bottom (held_count s) left (place_behind s) (is_prepared t)
        (reads s phase (Run before left) 0 _ _ _ is stays.before refl refl
        (ap (stage_in left) body))
        (reads t EndBottom EndBottom 0 _ _ _ refl stays.after stays.held stays.place refl)

module _ (joins : AccessesJoinUp) (on : CoursesUnderWayGoOn Ending) (follows : FollowingGoesOn)
    (program : Program) (mode : Mode) (old : Device) (before after : Cpu) (left : ℕ)
    (image : Memory) (fits : Fits program old) (is : old.phase ≡ Run before left) where
  abbrev m : Memory
  m = old.image

  -- in the task to run
  module _ (law : StoresSetTheValue) (flags : FlagWritesSetOneFlag)
      (body : before.body ≡ Task (current (state m))) where
    abbrev here : IsRunning program (program_code program) m old.attempt.items before left
    here = running_of program old before left (current (state m)) fits is body

    task_turn : (turn : Turn) → Stays (state m) (state image) → after.body ≡ before.body →
        ComesOn task_view (program_code program) here.left
        (task_course program (current (state m))) (base_word (state m)) here.done before after m
        image turn →
        IsStep (shape_of program) mode (effort_of old)
        (effort_at (state image) (phase_after after left turn))
    task_turn (Went reading) stays same came =
        goes_on program mode (state m) (state image) old.phase before after left is same stays
        (current (state m)) body
        (let told = here.in_time.told in let less = came.in_time in omega (arith, told, less))
    task_turn Storing stays same came =
        goes_on program mode (state m) (state image) old.phase before after left is same stays
        (current (state m)) body
        (let told = here.in_time.told in let less = came.in_time in omega (arith, told, less))
    task_turn (Ended ending) stays same came =
        comes_to_end program mode (state m) (state image) old.phase before after left is same
        stays (current (state m)) body (place_after ending)

    pub runs_step : (turn : Turn) →
        turning.IsStep task_view (program_code program) before after m image turn →
        IsStep (shape_of program) mode (effort_of old)
        (effort_at (state image) (phase_after after left turn))
    runs_step turn step =
        let code = program_code program in
        let on_course = here.under_way.on_course in
        let can = can_step task_view follows code before m here.left here.under_way.rest
        on_course in
        let move = move_of can.0 (state_of before) in
        let came = steps_under_way task_view joins on (steps_along task_view follows) code before
        after m image here.left (task_course program (current (state m))) (base_word (state m))
        here.done here.under_way turn step in
        let ready : IsReadyForSteps log.Task m = record {
          memory = fits.memory.memory;
          range = fits.memory.range;
          closed = fits.memory.closed;
          clear = here.at.clear.mark;
          has = tt;
          other = λ e. absurd cc;
        } in
        let makes = makes_more m image ready law flags before after turn move
        can.1.can_run.word (on_course.is_begun can.0 can.1.starts)
        (step.makes can.0 can.1.starts) in
        task_turn turn (stays_else (state m) (state image) here.at.clear makes.logs.else_stays)
        step.body came

  -- in the bottom half of the oldest held posting
  module _ (body : before.body ≡ Bottom (head_entry (state m)).event) where
    abbrev below : IsInBottom program (program_code program) m
        (standing_of program old.history.marks).rest old.attempt.items before left
    below = running_in program old before left (Bottom (head_entry (state m)).event) fits is body

    abbrev behind : Turn → Device
    behind turn = record old {
      image = image;
      phase = phase_of_bottom after left turn;
      attempt = after_turn old.attempt turn;
    }

    stays_bottom : (turn : Turn) → has_unit (state image) ≡ has_unit (state m) →
        IsClear (state image) → Fits program (behind turn) → Stays (state m) (state image)
    stays_bottom turn unit clear fits_now = record {
      before = clear_writes (state m) below.at.clear.mark below.at.clear.doomed;
      after = clear_writes (state image) clear.mark clear.doomed;
      held = held_as_told program (behind turn) fits_now ∙ sym (held_as_told program old fits);
      place = same_place (state m) (state image) unit
          (fits_now.stands.place ∙ sym fits.stands.place);
    }

    going : (turn : Turn) → after.body ≡ before.body → Fits program (behind turn) →
        (behind turn).phase ≡ Run after (left - 1) → IsClear (state image)
    going turn same fits_now running =
        (running_in program (behind turn) after (left - 1)
        (Bottom (head_entry (state m)).event) fits_now running (same ∙ body)).at.clear

    bottom_turn : (turn : Turn) → has_unit (state image) ≡ has_unit (state m) →
        after.body ≡ before.body → Fits program (behind turn) →
        ComesOn bottom_view (program_code program) below.left
        (course_at program below.at.held) (committed_word (state m)) below.done before after m
        image turn →
        IsStep (shape_of program) mode (effort_of old)
        (effort_at (state image) (phase_of_bottom after left turn))
    bottom_turn (Went reading) unit same fits_now came =
        goes_on_bottom program mode (state m) (state image) old.phase before after left is same
        (stays_bottom (Went reading) unit (going (Went reading) same fits_now refl) fits_now)
        (head_entry (state m)).event body
        (let told = below.in_time.told in let less = came.in_time in omega (arith, told, less))
    bottom_turn Storing unit same fits_now came =
        goes_on_bottom program mode (state m) (state image) old.phase before after left is same
        (stays_bottom Storing unit (going Storing same fits_now refl) fits_now)
        (head_entry (state m)).event body
        (let told = below.in_time.told in let less = came.in_time in omega (arith, told, less))
    bottom_turn (Ended ending) unit same fits_now came =
        comes_to_end_bottom program mode (state m) (state image) old.phase before after left is
        same (stays_bottom (Ended ending) unit fits_now.attempt.at.clear fits_now)
        (head_entry (state m)).event body

    pub runs_bottom_step : (turn : Turn) →
        turning.IsStep bottom_view (program_code program) before after m image turn →
        Fits program (behind turn) →
        IsStep (shape_of program) mode (effort_of old)
        (effort_at (state image) (phase_of_bottom after left turn))
    runs_bottom_step turn step fits_now =
        let code = program_code program in
        let on_course = below.under_way.on_course in
        let can = can_step bottom_view follows code before m below.left below.under_way.rest
        on_course in
        let came = steps_under_way bottom_view joins on (steps_along bottom_view follows) code
        before after m image below.left (course_at program below.at.held)
        (committed_word (state m)) below.done below.under_way turn step in
        bottom_turn turn
        (move_opens_none before after m image fits.memory.memory turn
        (move_of can.0 (state_of before)) (step.makes can.0 can.1.starts))
        step.body fits_now came
