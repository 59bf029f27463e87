-- Each part of what a device has to do is in its range.
use Rattle.std.proofs.Common.{◌≡◌, ◌==◌, ℕ, ◌+◌, ◌*◌, ◌≤◌, arith, List, Bool, true, false, if◌then◌else◌}
use Rattle.task_syntax.specs.declared.body.BodyId.{BodyId}
use Rattle.task_syntax.specs.declared.body.BodyId.TheVariants.{Bottom, Task, Top}
use Rattle.task_syntax.specs.declared.program.Program.{Program}
use Rattle.nv_memory.specs.InRange.{InRange}
use Rattle.nv_memory.specs.Logs.{log_length}
use Rattle.nv_memory.specs.Seats.{Memory}
use Rattle.nv_memory.specs.State.{State, state}
use Rattle.nv_memory.specs.Words.{attempt_flag, mark, mode}
use Rattle.nv_memory.specs.declared.log.Log.TheVariants as log
use Rattle.nv_memory.proofs.Held.{held_fit}
use Rattle.serial_log.specs.Standing.{standing_of}
use Rattle.serial_log.specs.declared.held.Held.{Held}
use Rattle.buffi_sets.specs.Undo.{undo_left}
use Rattle.buffi_sets.proofs.Ending.{undo_ends}
use Rattle.coati_word.specs.declared.reading.Reading.{Reading}
use Rattle.commit_log.specs.Left.{sum_below, writes_left}
use Rattle.commit_log.proofs.Ends.{few_left}
use Rattle.commit_log.proofs.Sums.{sum_bound}
use Rattle.codegen.specs.Bodies.{program_code}
use Rattle.word_cpu.specs.declared.cpu.Cpu.{Cpu}
use Rattle.coati_device.specs.declared.device.Device.{Device}
use Rattle.coati_device.specs.declared.device.Phase.{Phase}
use Rattle.coati_device.specs.declared.device.Phase.TheVariants.{Choose, Run, End, EndBottom}
use Rattle.coati_device.specs.Attempt.{IsAttempt, IsRunningIn}
use Rattle.coati_device.specs.Laws.{Fits}
use Rattle.coati_pace.specs.Effort.{IsEffort, IsStage, shape_of}
use Rattle.device_pace.specs.Effort.{cleaning_of, effort_of, flag_left, stage_in, stage_of, writes_under_way}

writes_by : (s : State) (b : Bool) → InRange s →
    (if b then undo_left s else writes_left s) ≤ 8 * s.n + 20
writes_by s true range = omega (arith, (undo_ends s).few)
writes_by s false range = few_left s range

pub few_writes : (s : State) → InRange s → writes_under_way s ≤ 8 * s.n + 20
few_writes s range = writes_by s (mark s == 0) range

one_at_most : (b : Bool) → (if b then 0 else 1) ≤ 1
one_at_most true = omega arith
one_at_most false = omega arith

flag_low : (b : Bool) → (if b then 1 else 0) ≤ 1
flag_low true = omega arith
flag_low false = omega arith

flags_by : (s : State) (b : Bool) → (if b then sum_below (flag_left s) s.n else 0) ≤ s.n
flags_by s true =
    let most = sum_bound (flag_left s) s.n 1 (λ word. flag_low (attempt_flag s word)) in
    omega (arith, most)
flags_by s false = omega arith

pub few_cleaning : (s : State) → cleaning_of s ≤ s.n + 1
few_cleaning s =
    let log = one_at_most (log_length s log.Task == 0) in
    let flags = flags_by s (mode s == 1) in
    omega (arith, log, flags)

running_stage : (program : Program) (m : Memory) (rest : List Held) (read : List Reading)
    (cpu : Cpu) (most : ℕ) (body : BodyId) →
    IsRunningIn program (program_code program) m rest read cpu most body →
    IsStage (shape_of program) (stage_in most body)
running_stage program m rest read cpu most (Task task) runs = runs.in_time.within
running_stage program m rest read cpu most (Top event) runs = absurd runs
running_stage program m rest read cpu most (Bottom event) runs = runs.in_time.within

stage_within : (program : Program) (m : Memory) (rest : List Held) (read : List Reading)
    (phase : Phase) → m.n ≡ (shape_of program).words →
    IsAttempt program (program_code program) m rest read phase →
    IsStage (shape_of program) (stage_of (state m) phase)
stage_within program m rest read Choose words attempt =
    let few = few_cleaning (state m) in omega (arith, words, few)
stage_within program m rest read (Run cpu most) words attempt =
    running_stage program m rest read cpu most cpu.body attempt
stage_within program m rest read (End place) words attempt = tt
stage_within program m rest read EndBottom words attempt = tt

pub in_range : (program : Program) (d : Device) → Fits program d →
    IsEffort (shape_of program) (effort_of d)
in_range program d fit =
    let s = state d.image in
    let memory = fit.memory in
    let writes = few_writes s memory.range in
    let held = held_fit s memory.range.ring in
    record {
      writes = omega (arith, memory.words, writes);
      held = omega (arith, memory.slots, held);
      stage = stage_within program d.image (standing_of program d.history.marks).rest
          d.attempt.items d.phase memory.words fit.attempt;
    }
