-- A machine that runs a task: how it starts, and that it can make its steps.
use Rattle.std.proofs.Common.{◌≡◌, ◌≢◌, ℕ, ◌-◌, ◌<◌, ◌≤◌, ◌&&◌, Bool, true, false, List, [], length, not, refl, sym, ap, subst, ◌∙◌, arith, inl, inr}
use Rattle.std.specs.Prelude.{Some, is_some, slice_get}
use Rattle.std.specs.Option.{option_map}
use Rattle.std.proofs.lemmas.Option.{slice_get_cases}
use Rattle.coati_word.specs.declared.ending.Ending.{Ending}
use Rattle.coati_word.specs.declared.reading.Reading.{Reading}
use Rattle.task_syntax.specs.declared.program.Program.{Program}
use Rattle.task_syntax.specs.declared.program.TaskDecl.{TaskDecl}
use Rattle.task_syntax.specs.declared.body.BodyId.{BodyId}
use Rattle.task_syntax.specs.declared.body.BodyId.TheVariants.{Task}
use Rattle.task_syntax.specs.declared.body.Kind.TheVariants as kind
use Rattle.task_syntax.specs.Cost.{body_cost}
use Rattle.task_syntax.specs.Course.{Course, Store}
use Rattle.task_syntax.specs.Expressions.{no_locals}
use Rattle.task_syntax.specs.Names.{tasks, word_count}
use Rattle.task_syntax.specs.Statements.{body}
use Rattle.task_syntax.specs.Units.{halt, statements_of, task_course}
use Rattle.task_check.specs.Accepted.{IsAccepted}
use Rattle.task_check.specs.Bodies.{task_body}
use Rattle.task_cost.specs.Limits.{greatest_cost}
use Rattle.nv_memory.specs.declared.log.Log.TheVariants as log
use Rattle.nv_memory.specs.Logs.{IsEmpty, log_length, log_value, task_log}
use Rattle.nv_memory.specs.Seats.{Memory}
use Rattle.nv_memory.specs.State.{State, state}
use Rattle.nv_memory.specs.Words.{attempt_flag, current, mode}
use Rattle.nv_memory.proofs.LogWrites.{empty_of}
use Rattle.serial_log.specs.declared.held.Held.{Held}
use Rattle.serial_log.specs.Standing.{standing_of}
use Rattle.codegen.specs.Bodies.{program_code}
use Rattle.codegen.specs.CodeLaws.{BodiesStandByNumber}
use Rattle.codegen.specs.ProgramLaws.{TasksComputeTheirCourse}
use Rattle.word_code.specs.Code.{Bodies, HasBody, body_words}
use Rattle.word_code.specs.Following.{Computes}
use Rattle.word_code.specs.FollowingLaws.{FollowingGoesOn}
use Rattle.word_cpu.specs.declared.cpu.Cpu.{Cpu}
use Rattle.word_cpu.specs.UnderWay.{IsAtStart, IsUnderWay}
use Rattle.word_cpu.proofs.OnCourse.{can_step}
use Rattle.word_cpu.proofs.UnderWay.{ready_under_way, starts_under_way}
use Rattle.coati_device.specs.declared.device.Device.{Device}
use Rattle.coati_device.specs.declared.device.Phase.TheVariants.{Run}
use Rattle.buffi_sets.specs.Flags.{HasNoFlag}
use Rattle.coati_device.specs.Attempt.{IsAtTask, IsAttempt, IsRunning, IsRunningIn, base_word, is_read_below}
use Rattle.coati_device.specs.Kept.{emptied}
use Rattle.coati_device.specs.Laws.{CanRunOver, Fits}
use Rattle.coati_device.specs.Points.{IsMemoryOf}
use Rattle.coati_device.specs.Rows.{Chooses, IsClear, steps_before_end}
use Rattle.coati_device.specs.TaskView.{task_view}
use Rattle.coati_device.proofs.StepsLeft.{in_time_at_start, task_in_bound}
use Rattle.coati_device.proofs.TaskWords.{words_at_start, words_length}

-- the task of a number
task_there : (program : Program) (number : ℕ) → number < length (tasks program)
    → (task : TaskDecl) × (slice_get (tasks program) number ≡ Some task)
task_there program number low = elim (slice_get_cases (tasks program) number).1 [
  | inl there ↦ (there.0, there.2)
  | inr past ↦ absurd (omega (arith, past.0))
]

-- where the program hasn't halted, there is a task to run
at_task : (program : Program) (m : Memory) → IsMemoryOf program m → IsClear (state m)
    → current (state m) ≢ halt → IsAtTask program (state m)
at_task program m memory clear on = record {
  clear = clear;
  task = elim memory.places.current [ inl low ↦ low | inr halted ↦ absurd (on halted) ];
}

-- the code of a task computes a course, on so many words
abbrev TaskComputes : Program → (number count cost : ℕ) → Course Ending → Type 0
TaskComputes program number count cost course =
    Computes (body_words (program_code program) (Task number)) count cost [] course

-- it is the task's own, at a cost within the bound
task_computes : (program : Program) (number : ℕ) → TasksComputeTheirCourse → IsAccepted program
    → number < length (tasks program)
    → (cost : ℕ) × (cost ≤ greatest_cost program)
    × TaskComputes program number (word_count program.vars) cost (task_course program number)
task_computes program number law accepted low =
    let there = task_there program number low in
    let cost = body_cost program there.0.body kind.Task in
    let computes = law program accepted number there.0 there.1 in
    let course_is = ap (λ task. body program (statements_of task) no_locals) (sym there.1) in (
      cost,
      task_in_bound program number there.0 there.1,
      subst (TaskComputes program number (word_count program.vars) cost) course_is computes,
    )

-- the attempt of a machine that runs a task
pub in_task : (program : Program) (code : Bodies) (m : Memory) (rest : List Held)
    (read : List Reading) (cpu : Cpu) (most number : ℕ) → cpu.body ≡ Task number
    → IsRunning program code m read cpu most
    → IsAttempt program code m rest read (Run cpu most)
in_task program code m rest read cpu most number is running =
    subst (IsRunningIn program code m rest read cpu most) (sym is) running

none_shared : (b : Bool) → (b && false) ≡ false
none_shared true = refl
none_shared false = refl

-- nothing was read below where no access is made
no_flag : (s : State) → (mode s ≡ 1 → HasNoFlag s) → mode s ≡ 1 → (word : ℕ) → word < s.n →
    attempt_flag s word ≡ is_read_below s [] word
no_flag s none buffi word low =
    none buffi word low ∙ sym (none_shared (not (is_some (log_value s log.Tx word))))

-- a task that starts on an empty log is running
starts_running : (program : Program) (m : Memory) (cpu : Cpu) → TasksComputeTheirCourse
    → IsAccepted program → IsMemoryOf program m → IsClear (state m) → current (state m) ≢ halt
    → log_length (state m) log.Task ≡ 0 → (mode (state m) ≡ 1 → HasNoFlag (state m))
    → IsAtStart (Task (current (state m))) [] cpu
    → IsRunning program (program_code program) m [] cpu (steps_before_end program)
starts_running program m cpu law accepted memory clear on none unset start =
    let code = program_code program in
    let at = at_task program m memory clear on in
    let number = current (state m) in
    let course = task_course program number in
    let empty : IsEmpty (state m) log.Task = empty_of (state m) task_log none in
    let found = task_computes program number law accepted at.task in
    let cost = found.0 in
    let computes =
    subst (λ (count : ℕ). TaskComputes program number count cost course)
    (sym (words_length m ∙ memory.words)) found.2 in
    record {
      at = at;
      body = start.body_is;
      done = [];
      made = record { log = empty; reads = refl; flags = no_flag (state m) unset };
      left = cost - 1;
      in_time =
          let some = computes.in_time in
          in_time_at_start program cost (omega (arith, some)) found.1;
      under_way =
          subst (λ (base : Store). IsUnderWay task_view code cpu m (cost - 1) course base [])
          (words_at_start m memory.range clear.mark empty)
          (starts_under_way task_view code cpu m (Task number) [] cost (cost - 1) course computes
          start (omega arith));
    }

-- the row of a task's start
pub starts_keep : (program : Program) (old new : Device) (cpu : Cpu) → TasksComputeTheirCourse
    → IsAccepted program → Fits program old → Chooses old → current (state old.image) ≢ halt
    → log_length (state old.image) log.Task ≡ 0
    → (mode (state old.image) ≡ 1 → HasNoFlag (state old.image))
    → IsAtStart (Task (current (state old.image))) [] cpu
    → new ≡ record old {
      phase = Run cpu (steps_before_end program);
      attempt = emptied old.attempt;
    } → Fits program new
starts_keep program old new cpu law accepted fits chooses on none unset start is =
    subst (λ (d : Device). Fits program d) (sym is) (record {
      memory = fits.memory;
      stands = fits.stands;
      waiting = fits.waiting;
      place = fits.place;
      unit = fits.unit;
      attempt =
          in_task program (program_code program) old.image
          (standing_of program old.history.marks).rest [] cpu (steps_before_end program)
          (current (state old.image)) start.body_is
          (starts_running program old.image cpu law accepted fits.memory chooses.clear on none
          unset start);
    })

-- what a running machine says is told by its body
pub running_in : (program : Program) (d : Device) (cpu : Cpu) (left : ℕ) (body : BodyId)
    → Fits program d → d.phase ≡ Run cpu left → cpu.body ≡ body
    → IsRunningIn program (program_code program) d.image
    (standing_of program d.history.marks).rest d.attempt.items cpu left body
running_in program d cpu left body fits running is =
    let rest = (standing_of program d.history.marks).rest in
    subst (IsRunningIn program (program_code program) d.image rest d.attempt.items cpu left) is
    (subst (IsAttempt program (program_code program) d.image rest d.attempt.items) running
    fits.attempt)

-- the attempt of a device that runs a task
pub running_of : (program : Program) (d : Device) (cpu : Cpu) (left number : ℕ) → Fits program d
    → d.phase ≡ Run cpu left → cpu.body ≡ Task number
    → IsRunning program (program_code program) d.image d.attempt.items cpu left
running_of program d cpu left number = running_in program d cpu left (Task number)

-- a machine that runs a task can make its next step
pub can_run_task : FollowingGoesOn → BodiesStandByNumber → (program : Program) (m : Memory)
    (read : List Reading) (cpu : Cpu) (left : ℕ) → IsMemoryOf program m
    → IsRunning program (program_code program) m read cpu left
    → CanRunOver task_view program cpu m
can_run_task follows stand program m read cpu left memory here =
    let there = task_there program (current (state m)) here.at.task in
    let stands =
    stand program (Task (current (state m))) (task_body there.0)
    (ap (option_map task_body) there.1) in
    let sizes = memory.range.sizes in
    record {
      body = subst (λ (b : BodyId). HasBody (program_code program) b) (sym here.body) stands.exists;
      few = let count = words_length m in omega (arith, count, sizes.few_words);
      ready =
          ready_under_way task_view (can_step task_view follows) (program_code program) cpu m
          here.left (task_course program (current (state m))) (base_word (state m)) here.done
          here.under_way;
    }
