-- A step of the machine in a task keeps what a device keeps.
use Rattle.std.proofs.Common.{◌≡◌, ℕ, ◌-◌, List, [], ◌++◌, length, Some, None, inl, refl, sym, ap, subst, ◌∙◌, append-nil}
use Rattle.std.specs.Option.{option_or}
use Rattle.coati_word.specs.declared.ending.Ending.{Ending}
use Rattle.coati_word.specs.declared.reading.Reading.{Reading}
use Rattle.task_syntax.specs.declared.program.Program.{Program}
use Rattle.task_syntax.specs.declared.body.BodyId.TheVariants.{Task}
use Rattle.task_syntax.specs.Course.{Access, Store, readings}
use Rattle.task_syntax.specs.CourseLaws.{AccessesJoinUp, CoursesUnderWayGoOn, WrittenWordsAreTold}
use Rattle.task_syntax.specs.Names.{tasks}
use Rattle.task_syntax.specs.Units.{place_after, task_course}
use Rattle.task_syntax.specs.Written.{last_written}
use Rattle.nv_memory.specs.declared.log.Log.{Log}
use Rattle.nv_memory.specs.declared.log.Log.TheVariants as log
use Rattle.nv_memory.specs.Frames.{StandsForTheSame}
use Rattle.nv_memory.specs.Ring.{Entry}
use Rattle.nv_memory.specs.Seats.{Memory}
use Rattle.nv_memory.specs.State.{State, state}
use Rattle.nv_memory.specs.Words.{current, mark}
use Rattle.serial_log.specs.declared.held.Held.{Held}
use Rattle.serial_log.specs.Standing.{Standing, standing_of}
use Rattle.buffi_sets.specs.Flags.{FlagWritesSetOneFlag}
use Rattle.commit_log.specs.OpenUnit.{KeepsUnit}
use Rattle.task_buffer.specs.StoreLaws.{StoresSetTheValue}
use Rattle.codegen.specs.Bodies.{program_code}
use Rattle.word_code.specs.FollowingLaws.{FollowingGoesOn}
use Rattle.word_code.specs.Code.{body_words}
use Rattle.word_code.specs.declared.instruction.Instr.{Instr}
use Rattle.word_code.specs.Machine.{StartsAt, move_of}
use Rattle.word_cpu.specs.declared.cpu.Cpu.{Cpu}
use Rattle.word_cpu.specs.declared.turn.Turn.{Turn}
use Rattle.word_cpu.specs.declared.turn.Turn.TheVariants.{Went, Storing, Ended}
use Rattle.word_cpu.specs.OnCourse.{done_by, read_by}
use Rattle.word_cpu.specs.Turning.{IsStep, state_of}
use Rattle.word_cpu.specs.UnderWay.{CameFurther, CameToTheEnd, ComesOn, IsUnderWay}
use Rattle.word_cpu.proofs.OnCourse.{can_step, steps_along}
use Rattle.word_cpu.proofs.UnderWay.{steps_under_way}
use Rattle.coati_device.specs.declared.device.Device.{Device}
use Rattle.coati_device.specs.declared.device.Phase.{Phase}
use Rattle.coati_device.specs.declared.device.Phase.TheVariants.{Run}
use Rattle.coati_device.specs.Attempt.{HasEnded, HasMade, IsAtTask, IsAttempt, IsBehindTask, IsRunning, base_word}
use Rattle.coati_device.specs.Kept.{Kept, after_turn}
use Rattle.coati_device.specs.Laws.{Fits}
use Rattle.coati_device.specs.OpenUnit.{has_unit}
use Rattle.coati_device.specs.Points.{AreHeld, IsFit, IsMemoryOf, Reads, StandsFor, reads_of}
use Rattle.coati_device.specs.Rows.{phase_after}
use Rattle.coati_device.specs.TaskView.{task_view}
use Rattle.coati_device.proofs.Attempts.{in_task, running_of}
use Rattle.coati_device.proofs.OpenUnits.{LeavesUnit, open_unit_kept}
use Rattle.coati_device.proofs.StepsLeft.{in_time_after}
use Rattle.coati_device.proofs.TaskFlags.{FlagsMore, flags_joined, flags_more}
use Rattle.coati_device.proofs.TaskWrites.{IsReadyForSteps, LeavesAllElse, MakesMore, base_stays, makes_more}

-- memory is still one of the program
still_of : (program : Program) (own : Log) (m new : Memory) (more : List Access)
    → IsMemoryOf program m → MakesMore own m new more → IsMemoryOf program new
still_of program own m new more memory made =
    let keeps = made.logs.else_stays.keeps in
    record {
      memory = made.memory;
      words = made.words ∙ memory.words;
      slots = made.slots ∙ memory.slots;
      range = keeps.range;
      places = keeps.places (length (tasks program)) memory.places;
      closed = keeps.closed;
      mode = rw made.logs.else_stays.same_mode memory.mode;
    }

-- the open unit stays
still_unit : (s t : State) → mark s ≡ 0 → LeavesAllElse s t → KeepsUnit s t
still_unit s t clear stays =
    let then : mark t ≡ 0 = stays.same_mark ∙ clear in
    record {
      log = λ word. rw (then, clear) (stays.transaction word);
      flags = λ word low. rw (then, clear) (stays.tx_flags word);
      next = rw (then, clear) stays.same_current;
    }

still_open : (s t : State) → LeavesAllElse s t → has_unit t ≡ has_unit s
still_open s t stays = rw (stays.same_mark, stays.same_opened, stays.same_doomed) refl

leaves_unit : (s t : State) → mark s ≡ 0 → LeavesAllElse s t → LeavesUnit s t
leaves_unit s t clear stays = record {
  unit = still_unit s t clear stays;
  open_same = still_open s t stays;
  mode_same = stays.same_mode;
  words_same = stays.same_words;
}

still_stands : (program : Program) (s t : State) (standing : Standing) → StandsForTheSame s t
    → StandsFor program s standing → StandsFor program t standing
still_stands program s t standing same stands = record {
  words = λ word. same.words word ∙ stands.words word;
  place = same.place ∙ stands.place;
  held =
      subst (λ (entries : List Entry). AreHeld program entries standing.rest) (sym same.held)
      stands.held;
}

-- a step keeps what a device keeps, but for the attempt
pub fit_on : (program : Program) (own : Log) (m new : Memory) (reads : Reads) (kept : List Reading)
    (before after : Phase) (standing : Standing) (more : List Access)
    → IsFit program (program_code program) m reads before standing → mark (state m) ≡ 0
    → MakesMore own m new more
    → IsAttempt program (program_code program) new standing.rest kept after
    → IsFit program (program_code program) new (record reads { attempt = kept }) after standing
fit_on program own m new reads kept before after standing more fit clear makes attempt =
    let stays = makes.logs.else_stays in
    record {
      memory = still_of program own m new more fit.memory makes;
      stands = still_stands program (state m) (state new) standing stays.keeps.meaning fit.stands;
      waiting = fit.waiting;
      place = fit.place;
      unit =
          open_unit_kept program (state m) (state new) standing.run reads.unit reads.finished
          (leaves_unit (state m) (state new) clear stays) fit.unit;
      attempt = attempt;
    }

still_at : (program : Program) (s t : State) → LeavesAllElse s t → IsAtTask program s
    → IsAtTask program t
still_at program s t stays at = record {
  clear = record {
    mark = stays.same_mark ∙ at.clear.mark;
    doomed = stays.same_doomed ∙ at.clear.doomed;
  };
  task = rw stays.same_current at.task;
}

-- what the attempt has read after a step
pub read_after : (kept : Kept) (turn : Turn)
    → (after_turn kept turn).items ≡ kept.items ++ read_by turn
read_after kept (Went None) = sym (append-nil kept.items)
read_after kept (Went (Some reading)) = refl
read_after kept Storing = sym (append-nil kept.items)
read_after kept (Ended ending) = sym (append-nil kept.items)

-- a step stores into the task's log, and sets flags
record StepsOn (m new : Memory) (more : List Access) : Type 0 where
  makes : MakesMore log.Task m new more
  flags : FlagsMore (state m) (state new) more

-- the log has more accesses, and the attempt has read more
made_on : AccessesJoinUp → WrittenWordsAreTold → (m new : Memory) (read reads : List Reading)
    (done more : List Access)
    → HasMade (state m) read done → StepsOn m new more → readings more ≡ reads
    → HasMade (state new) (read ++ reads) (done ++ more)
made_on joins told m new read reads done more made steps same = record {
  log = λ word.
      steps.makes.logs.log word
      ∙ ap (option_or (last_written more word)) (made.log word)
      ∙ sym ((joins done more).last word);
  reads =
      ap (λ (r : List Reading). r ++ reads) made.reads
      ∙ ap (λ (r : List Reading). readings done ++ r) (sym same)
      ∙ sym (joins done more).read;
  flags =
      flags_joined joins told (state m) (state new) done more steps.makes.logs.else_stays
      steps.flags made.log made.flags;
}

-- no commit and no undo is under way where a task has ended
behind_task : (program : Program) (s : State) → IsAtTask program s → IsBehindTask program s
behind_task program s at =
    record { mark = inl at.clear.mark; doomed = at.clear.doomed; task = at.task }

-- the body has ended
ends_at : (program : Program) (m new : Memory) (read : List Reading) (done : List Access)
    (ending : Ending) → IsAtTask program (state m) → HasMade (state m) read done
    → CameToTheEnd task_view (task_course program (current (state m))) (base_word (state m)) done m
    new ending
    → HasEnded program new (read ++ []) (place_after ending)
ends_at program m new read done ending at made came =
    subst (λ (x : Memory). HasEnded program x (read ++ []) (place_after ending)) (sym came.view)
    (subst (λ (r : List Reading). HasEnded program m r (place_after ending))
    (sym (append-nil read))
    (record {
      at = behind_task program (state m) at;
      made = subst (HasMade (state m) read) came.all made;
      leads = ap place_after came.ending_is;
    }))

-- the machine is under way in the task of a number
abbrev IsIn : Program → Cpu → Memory → (left number : ℕ) → Store → List Access → Type 0
IsIn program cpu m left number base done =
    IsUnderWay task_view (program_code program) cpu m left (task_course program number) base done

module _ (program : Program) (m new : Memory) (read : List Reading) (before after : Cpu)
    (most : ℕ) (here : IsRunning program (program_code program) m read before most) where
  -- a step brought it further
  abbrev Came : Turn → Type 0
  Came turn =
      CameFurther task_view (program_code program) here.left
      (task_course program (current (state m))) (base_word (state m)) here.done before after m new
      turn

  -- what a step came to
  abbrev Comes : Turn → Type 0
  Comes turn =
      ComesOn task_view (program_code program) here.left (task_course program (current (state m)))
      (base_word (state m)) here.done before after m new turn

  runs_on : AccessesJoinUp → WrittenWordsAreTold → after.body ≡ before.body → (turn : Turn)
      (came : Came turn) → StepsOn m new came.more
      → IsRunning program (program_code program) new (read ++ read_by turn) after (most - 1)
  runs_on joins told same turn came steps =
      let stays = steps.makes.logs.else_stays in
      let done = here.done ++ came.more in
      record {
        at = still_at program (state m) (state new) stays here.at;
        body = same ∙ here.body ∙ ap Task (sym stays.same_current);
        done = done;
        made =
            made_on joins told m new read (read_by turn) here.done came.more here.made steps
            came.reads;
        left = came.remaining;
        in_time = in_time_after program here.left most came.remaining came.in_time here.in_time;
        under_way =
            subst
            (λ (number : ℕ).
            IsIn program after new came.remaining number (base_word (state new)) done)
            (sym stays.same_current)
            (subst
            (λ (base : Store). IsIn program after new came.remaining (current (state m)) base done)
            (sym (base_stays (state m) (state new) stays)) came.under_way);
      }

  -- it goes on
  goes_on_in : (rest : List Held) → AccessesJoinUp → WrittenWordsAreTold
      → after.body ≡ before.body → (turn : Turn) (came : Came turn) → StepsOn m new came.more
      → IsAttempt program (program_code program) new rest (read ++ read_by turn)
      (Run after (most - 1))
  goes_on_in rest joins told same turn came steps =
      in_task program (program_code program) new rest (read ++ read_by turn) after (most - 1)
      (current (state m)) (same ∙ here.body) (runs_on joins told same turn came steps)

  -- what a step makes of the attempt
  attempt_on : (rest : List Held) → AccessesJoinUp → WrittenWordsAreTold
      → after.body ≡ before.body → (instr : Instr)
      → StartsAt (body_words (program_code program) before.body) instr (state_of before)
      → (turn : Turn) → Comes turn
      → StepsOn m new (done_by turn (move_of instr (state_of before)))
      → IsAttempt program (program_code program) new rest (read ++ read_by turn)
      (phase_after after most turn)
  attempt_on rest joins told same instr starts (Went reading) came steps =
      goes_on_in rest joins told same (Went reading) came
      (subst (StepsOn m new) (came.more_is instr starts) steps)
  attempt_on rest joins told same instr starts Storing came steps =
      goes_on_in rest joins told same Storing came
      (subst (StepsOn m new) (came.more_is instr starts) steps)
  attempt_on rest joins told same instr starts (Ended ending) came steps =
      ends_at program m new read here.done ending here.at here.made came

-- the row of a machine step
pub runs_keep : AccessesJoinUp → WrittenWordsAreTold → CoursesUnderWayGoOn Ending
    → FollowingGoesOn → StoresSetTheValue → FlagWritesSetOneFlag
    → (program : Program) (old new : Device) (before after : Cpu) (left : ℕ) (image : Memory)
    (turn : Turn)
    → Fits program old → old.phase ≡ Run before left
    → before.body ≡ Task (current (state old.image))
    → IsStep task_view (program_code program) before after old.image image turn
    → new ≡ record old {
      image = image;
      phase = phase_after after left turn;
      attempt = after_turn old.attempt turn;
    } → Fits program new
runs_keep joins told goes_on follows law flags program old new before after left image turn fits
    running body step is =
    let m = old.image in
    let code = program_code program in
    let standing = standing_of program old.history.marks in
    let here =
    running_of program old before left (current (state old.image)) fits running body in
    let on_course = here.under_way.on_course in
    let can = can_step task_view follows code before m here.left here.under_way.rest on_course in
    let move = move_of can.0 (state_of before) in
    let came =
    steps_under_way task_view joins goes_on (steps_along task_view follows) code before after m
    image here.left (task_course program (current (state m))) (base_word (state m)) here.done
    here.under_way turn step in
    let ready : IsReadyForSteps log.Task m =
    record {
      memory = fits.memory.memory;
      range = fits.memory.range;
      closed = fits.memory.closed;
      clear = here.at.clear.mark;
      has = tt;
      other = λ e. absurd cc;
    } in
    let begun = on_course.is_begun can.0 can.1.starts in
    let made = step.makes can.0 can.1.starts in
    let steps : StepsOn m image (done_by turn move) =
    record {
      makes =
          makes_more m image ready law flags before after turn move can.1.can_run.word begun made;
      flags =
          flags_more m image ready law flags before after turn move can.1.can_run.word begun made;
    } in
    subst (λ (d : Device). Fits program d) (sym is)
    (fit_on program log.Task m image (reads_of old) (after_turn old.attempt turn).items old.phase
    (phase_after after left turn) standing (done_by turn move) fits here.at.clear.mark
    steps.makes
    (subst
    (λ (read : List Reading).
    IsAttempt program code image standing.rest read (phase_after after left turn))
    (sym (read_after old.attempt turn))
    (attempt_on program m image old.attempt.items before after left here standing.rest joins told
    step.body can.0 can.1.starts turn came steps)))
