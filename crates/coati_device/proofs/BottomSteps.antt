-- A step of the machine in a bottom half keeps what a device keeps, and the machine can make it.
use Rattle.std.proofs.Common.{◌≡◌, ℕ, ◌-◌, ◌<◌, List, [], ◌∷◌, ◌++◌, length, Bool, true, false, Some, None, refl, sym, ap, subst, ◌∙◌, append-nil, arith}
use Rattle.std.specs.Prelude.{slice_index}
use Rattle.std.specs.Option.{option_map, option_or}
use Rattle.coati_word.specs.declared.ending.Ending.{Ending}
use Rattle.coati_word.specs.declared.reading.Reading.{Reading}
use Rattle.task_syntax.specs.declared.program.Program.{Program}
use Rattle.task_syntax.specs.declared.body.BodyId.{BodyId}
use Rattle.task_syntax.specs.declared.body.BodyId.TheVariants.{Bottom, Task, Top}
use Rattle.task_syntax.specs.Course.{Access, Course, Store, readings}
use Rattle.task_syntax.specs.CourseLaws.{AccessesJoinUp, CoursesUnderWayGoOn}
use Rattle.task_syntax.specs.Written.{last_written}
use Rattle.task_check.specs.Bodies.{bottom_half}
use Rattle.nv_memory.specs.declared.log.Log.{Log}
use Rattle.nv_memory.specs.Logs.{log_value}
use Rattle.nv_memory.specs.Ring.{held_entries}
use Rattle.nv_memory.specs.Seats.{Memory}
use Rattle.nv_memory.specs.StandsFor.{committed_word}
use Rattle.nv_memory.specs.State.{State, state}
use Rattle.nv_memory.specs.Words.{head}
use Rattle.nv_memory.proofs.Turns.{slot_low}
use Rattle.task_buffer.specs.Stores.{IsBegun}
use Rattle.task_buffer.specs.StoreLaws.{StoresSetTheValue}
use Rattle.serial_log.specs.declared.held.Held.{Held}
use Rattle.serial_log.specs.Postings.{due_posting}
use Rattle.serial_log.specs.Standing.{standing_of}
use Rattle.codegen.specs.Bodies.{program_code}
use Rattle.codegen.specs.CodeLaws.{BodiesStandByNumber}
use Rattle.word_code.specs.FollowingLaws.{FollowingGoesOn}
use Rattle.word_code.specs.Code.{HasBody, body_words}
use Rattle.word_code.specs.declared.instruction.Instr.{Instr}
use Rattle.word_code.specs.Machine.{IsWithin, Move, StartsAt, move_of}
use Rattle.word_cpu.specs.declared.cpu.Cpu.{Cpu}
use Rattle.word_cpu.specs.declared.turn.Turn.{Turn}
use Rattle.word_cpu.specs.declared.turn.Turn.TheVariants.{Went, Storing, Ended}
use Rattle.word_cpu.specs.OnCourse.{done_by, read_by}
use Rattle.word_cpu.specs.Turning.{IsStep, Makes, state_of}
use Rattle.word_cpu.specs.Turning as turning
use Rattle.word_cpu.specs.UnderWay.{CameFurther, CameToTheEnd, ComesOn, IsUnderWay}
use Rattle.word_cpu.proofs.OnCourse.{can_step, steps_along}
use Rattle.word_cpu.proofs.UnderWay.{ready_under_way, steps_under_way}
use Rattle.coati_device.specs.declared.device.Device.{Device}
use Rattle.coati_device.specs.declared.device.Phase.TheVariants.{Run}
use Rattle.coati_device.specs.Attempt.{HasEndedBottom, HasMadeAtHead, IsAtPosting, IsAttempt, IsInBottom, IsRunningIn, course_at}
use Rattle.coati_device.specs.BottomView.{bottom_view, bottom_words, head_log}
use Rattle.coati_device.specs.Kept.{after_turn}
use Rattle.coati_device.specs.Laws.{CanRun, CanRunBody, CanRunOver, Fits}
use Rattle.coati_device.specs.Points.{AreHeld, IsMemoryOf, reads_of}
use Rattle.coati_device.specs.Rows.{ComesToEvents, IsClear, head_entry, phase_of_bottom}
use Rattle.coati_device.specs.TaskView.{HasStoredIn}
use Rattle.coati_device.proofs.Attempts.{can_run_task, running_in}
use Rattle.coati_device.proofs.BottomStarts.{in_bottom}
use Rattle.coati_device.proofs.BottomWords.{bottom_length}
use Rattle.coati_device.proofs.HeadEntry.{event_there, oldest_at_head}
use Rattle.coati_device.proofs.StepsLeft.{in_time_after}
use Rattle.coati_device.proofs.TaskSteps.{fit_on, read_after}
use Rattle.coati_device.proofs.TaskWrites.{IsReadyForSteps, LeavesAllElse, MakesMore, logs_no_reading, makes_none, makes_part, written_by_part}
use Rattle.coati_device.proofs.UnitGrows.{pointwise}

-- a step stores into the log of the entry at the head
abbrev MakesAtHead : (m new : Memory) → List Access → Type 0
MakesAtHead m new more = MakesMore (head_log (state m)) m new more

module _ (m new : Memory) (ready : IsReadyForSteps (head_log (state m)) m) where
  part_at_head : StoresSetTheValue → (word value part : ℕ) (is_last : Bool)
      → word < length (bottom_words m)
      → (0 < part → IsBegun (state m) (head_log (state m)) word value part)
      → HasStoredIn (head_log (state m)) m word value part new is_last
      → MakesAtHead m new (written_by_part word value is_last)
  part_at_head law word value part is_last low =
      let count = bottom_length m in
      makes_part (head_log (state m)) m new ready law word value part is_last
      (omega (arith, count, low))

  -- each step that makes a move, or a part of it
  makes_at_head : StoresSetTheValue → (before after : Cpu) (turn : Turn) (move : Move)
      → IsWithin (length (bottom_words m)) move
      → turning.IsBegun (bottom_view.begun m) before.part move
      → Makes bottom_view before after m new turn move → MakesAtHead m new (done_by turn move)
  makes_at_head law before after turn (Move.goes next) within begun made =
      makes_none (head_log (state m)) m new ready made.view
  makes_at_head law before after turn (Move.loads word next) within begun made =
      subst (λ (t : Turn). MakesAtHead m new (done_by t (Move.loads word next))) (sym made.answer)
      (logs_no_reading (head_log (state m)) m new word (slice_index (bottom_words m) word)
      (makes_none (head_log (state m)) m new ready made.view))
  makes_at_head law before after (Went None) (Move.stores word value next) within begun made =
      part_at_head law word value before.part true within begun made.view
  makes_at_head law before after (Went (Some read)) (Move.stores word value next) within begun
      made = absurd made
  makes_at_head law before after Storing (Move.stores word value next) within begun made =
      part_at_head law word value before.part false within begun made.view
  makes_at_head law before after (Ended ending) (Move.stores word value next) within begun made =
      absurd made
  makes_at_head law before after turn (Move.ends ending) within begun made =
      makes_none (head_log (state m)) m new ready made.view

-- the entry at the head stays there
head_stays : (s t : State) → LeavesAllElse s t → head_log t ≡ head_log s
head_stays s t stays = rw (stays.same_slots, stays.same_head) refl

-- and so do the committed words
committed_stays : (s t : State) → LeavesAllElse s t → committed_word t ≡ committed_word s
committed_stays s t stays = pointwise (committed_word t) (committed_word s)
    stays.keeps.meaning.words

still_clear : (s t : State) → LeavesAllElse s t → IsClear s → IsClear t
still_clear s t stays clear = record {
  mark = stays.same_mark
      ∙ clear.mark;
  doomed = stays.same_doomed ∙ clear.doomed;
}

still_at_events : (s t : State) → LeavesAllElse s t → ComesToEvents s → ComesToEvents t
still_at_events s t stays events = record {
  mode = stays.same_mode ∙ events.mode;
  closed = stays.same_opened ∙ events.closed;
  held = subst (λ (count : ℕ). 0 < count) (sym stays.same_held) events.held;
}

-- the log has more accesses, and the attempt has read more
made_on_head : AccessesJoinUp → (m new : Memory) (read reads : List Reading)
    (done more : List Access)
    → HasMadeAtHead (state m) read done → MakesAtHead m new more → readings more ≡ reads
    → HasMadeAtHead (state new) (read ++ reads) (done ++ more)
made_on_head joins m new read reads done more made makes same = record {
  log = λ word.
      ap (λ (l : Log). log_value (state new) l word)
      (head_stays (state m) (state new) makes.logs.else_stays)
      ∙ makes.logs.log word
      ∙ ap (option_or (last_written more word)) (made.log word)
      ∙ sym ((joins done more).last word);
  reads =
      ap (λ (r : List Reading). r ++ reads) made.reads
      ∙ ap (λ (r : List Reading). readings done ++ r) (sym same)
      ∙ sym (joins done more).read;
}

-- the body has ended
ends_at_head : (program : Program) (m new : Memory) (rest : List Held) (read : List Reading)
    (done : List Access)
    (ending : Ending) (at : IsAtPosting (state m) rest) → HasMadeAtHead (state m) read done
    → CameToTheEnd bottom_view (course_at program at.held) (committed_word (state m)) done m new
    ending
    → HasEndedBottom program new rest (read ++ [])
ends_at_head program m new rest read done ending at made came =
    subst (λ (x : Memory). HasEndedBottom program x rest (read ++ [])) (sym came.view)
    (subst (HasEndedBottom program m rest) (sym (append-nil read))
    (record { at = at; made = subst (HasMadeAtHead (state m) read) came.all made }))

module _ (program : Program) (m new : Memory) (rest : List Held) (read : List Reading)
    (before after : Cpu)
    (most : ℕ) (here : IsInBottom program (program_code program) m rest read before most) where
  abbrev its_course : Course Ending
  its_course = course_at program here.at.held

  -- a step brought it further
  abbrev Came : Turn → Type 0
  Came turn =
      CameFurther bottom_view (program_code program) here.left its_course
      (committed_word (state m))
      here.done before after m new turn

  -- what a step came to
  abbrev Comes : Turn → Type 0
  Comes turn =
      ComesOn bottom_view (program_code program) here.left its_course (committed_word (state m))
      here.done before after m new turn

  runs_on_head : AccessesJoinUp → after.body ≡ before.body → (turn : Turn) (came : Came turn)
      → MakesAtHead m new came.more
      → IsInBottom program (program_code program) new rest (read ++ read_by turn) after (most - 1)
  runs_on_head joins same turn came makes =
      let stays = makes.logs.else_stays in
      let done = here.done ++ came.more in
      record {
        at = record {
          clear = still_clear (state m) (state new) stays here.at.clear;
          events = still_at_events (state m) (state new) stays here.at.events;
          held = here.at.held;
          due = here.at.due;
        };
        body = same ∙ here.body;
        done = done;
        made = made_on_head joins m new read (read_by turn) here.done came.more here.made makes
            came.reads;
        left = came.remaining;
        in_time = in_time_after program here.left most came.remaining came.in_time here.in_time;
        under_way =
            subst (λ (base : Store). IsUnderWay bottom_view (program_code program) after new
            came.remaining its_course base done)
            (sym (committed_stays (state m) (state new) stays)) came.under_way;
      }

  -- it goes on
  goes_on_head : AccessesJoinUp → after.body ≡ before.body → (turn : Turn) (came : Came turn)
      → MakesAtHead m new came.more
      → IsAttempt program (program_code program) new rest (read ++ read_by turn)
      (Run after (most - 1))
  goes_on_head joins same turn came makes =
      in_bottom program (program_code program) new rest (read ++ read_by turn) after (most - 1)
      here.at.held.event (same ∙ here.body)
      (runs_on_head joins same turn came makes)

  -- what a step makes of the attempt
  attempt_on_head : AccessesJoinUp → after.body ≡ before.body → (instr : Instr)
      → StartsAt (body_words (program_code program) before.body) instr (state_of before)
      → (turn : Turn) → Comes turn
      → MakesAtHead m new (done_by turn (move_of instr (state_of before)))
      → IsAttempt program (program_code program) new rest (read ++ read_by turn)
      (phase_of_bottom after most turn)
  attempt_on_head joins same instr starts (Went reading) came makes =
      goes_on_head joins same (Went reading) came
      (subst (MakesAtHead m new) (came.more_is instr starts) makes)
  attempt_on_head joins same instr starts Storing came makes =
      goes_on_head joins same Storing came (subst (MakesAtHead m new) (came.more_is instr starts)
      makes)
  attempt_on_head joins same instr starts (Ended ending) came makes =
      ends_at_head program m new rest read here.done ending here.at here.made came

-- the row of a machine step
pub runs_bottom_keep : AccessesJoinUp → CoursesUnderWayGoOn Ending → FollowingGoesOn
    → StoresSetTheValue
    → (program : Program) (old new : Device) (before after : Cpu) (left : ℕ) (image : Memory)
    (turn : Turn)
    → Fits program old → old.phase ≡ Run before left
    → before.body ≡ Bottom (head_entry (state old.image)).event
    → IsStep bottom_view (program_code program) before after old.image image turn
    → new ≡ record old {
      image = image;
      phase = phase_of_bottom after left turn;
      attempt =
          after_turn old.attempt turn;
    }
    → Fits program new
runs_bottom_keep joins goes_on follows law program old new before after left image turn fits
    running body step is =
    let m = old.image in
    let code = program_code program in
    let standing = standing_of program old.history.marks in
    let here : IsInBottom program code m standing.rest old.attempt.items before left =
    running_in program old before left (Bottom (head_entry (state m)).event) fits running body in
    let on_course = here.under_way.on_course in
    let can = can_step bottom_view follows code before m here.left here.under_way.rest on_course in
    let move = move_of can.0 (state_of before) in
    let came =
    steps_under_way bottom_view joins goes_on (steps_along bottom_view follows) code before after m
    image here.left
    (course_at program here.at.held) (committed_word (state m)) here.done here.under_way turn
    step in
    let ready : IsReadyForSteps (head_log (state m)) m =
    record {
      memory = fits.memory.memory;
      range = fits.memory.range;
      closed = fits.memory.closed;
      clear = here.at.clear.mark;
      has = slot_low m.k (head (state m));
      other = λ e. absurd cc;
    } in
    let makes =
    makes_at_head m image ready law before after turn move can.1.can_run.word
    (on_course.is_begun can.0 can.1.starts) (step.makes can.0 can.1.starts) in
    subst (λ (d : Device). Fits program d) (sym is)
    (fit_on program (head_log (state m)) m image (reads_of old) (after_turn old.attempt turn).items
    old.phase
    (phase_of_bottom after left turn) standing (done_by turn move) fits here.at.clear.mark makes
    (subst (λ (read : List Reading). IsAttempt program code image standing.rest read
    (phase_of_bottom after left turn))
    (sym (read_after old.attempt turn))
    (attempt_on_head program m image standing.rest old.attempt.items before after left here joins
    step.body can.0 can.1.starts turn came makes)))

-- the event of the posting that is due is one of the program
due_known : (program : Program) (rest more : List Held) (first held : Held) → rest ≡ first ∷ more
    → due_posting rest ≡ Some held → first.event < length program.events
    → held.event < length program.events
due_known program rest more first held is due low =
    let both : due_posting (first ∷ more) ≡ Some held =
    subst (λ (r : List Held). due_posting r ≡ Some held) is due in
    let same : first ≡ held = cc in
    subst (λ (h : Held). h.event < length program.events) same low

module _ (follows : FollowingGoesOn) (stand : BodiesStandByNumber) (program : Program) where
  -- a machine that runs a bottom half can make its next step
  can_run_bottom : (m : Memory) (rest : List Held) (read : List Reading) (cpu : Cpu) (left : ℕ)
      → IsMemoryOf program m
      → AreHeld program (held_entries (state m)) rest
      → IsInBottom program (program_code program) m rest read cpu left
      → CanRunOver bottom_view program cpu m
  can_run_bottom m rest read cpu left memory held here =
      let head = oldest_at_head program (state m) rest here.at.clear.mark here.at.events.held
      held in
      let known = due_known program rest head.more head.held here.at.held head.first here.at.due
      head.is.known in
      let there = event_there program here.at.held.event known in
      let stands = stand program (Bottom here.at.held.event) (bottom_half there.0)
      (ap (option_map bottom_half) there.1) in
      let sizes = memory.range.sizes in
      record {
        body = subst (λ (b : BodyId). HasBody (program_code program) b) (sym here.body)
            stands.exists;
        few = let count = bottom_length m in omega (arith, count, sizes.few_words);
        ready =
            ready_under_way bottom_view (can_step bottom_view follows) (program_code program) cpu m
            here.left
            (course_at program here.at.held) (committed_word (state m)) here.done here.under_way;
      }

  can_run_in : (m : Memory) (rest : List Held) (read : List Reading) (cpu : Cpu) (left : ℕ)
      → IsMemoryOf program m
      → AreHeld program (held_entries (state m)) rest → (body : BodyId)
      → IsRunningIn program (program_code program) m rest read cpu left body
      → CanRunBody program m cpu body
  can_run_in m rest read cpu left memory held (Task task) here =
      can_run_task follows stand program m read cpu left memory here
  can_run_in m rest read cpu left memory held (Top event) here = absurd here
  can_run_in m rest read cpu left memory held (Bottom event) here =
      can_run_bottom m rest read cpu left memory held here

  -- a machine that runs can make its next step
  pub can_run : (d : Device) (cpu : Cpu) (left : ℕ) → Fits program d → d.phase ≡ Run cpu left
      → CanRun program d cpu
  can_run d cpu left fits running =
      can_run_in d.image (standing_of program d.history.marks).rest d.attempt.items cpu left
      fits.memory fits.stands.held cpu.body
      (running_in program d cpu left cpu.body fits running refl)
