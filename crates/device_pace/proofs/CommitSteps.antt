-- A write of a commit or an undo is a step.
use Rattle.std.proofs.Common.{◌≡◌, ◌≢◌, ◌==◌, ℕ, ◌<◌, refl, ap, arith, inl, inr, Some, List}
use Rattle.coati_word.specs.declared.mode.Mode.{Mode}
use Rattle.coati_word.specs.declared.reading.Reading.{Reading}
use Rattle.task_syntax.specs.declared.body.BodyId.{BodyId}
use Rattle.task_syntax.specs.declared.body.BodyId.TheVariants.{Bottom, Task, Top}
use Rattle.task_syntax.specs.declared.program.Program.{Program}
use Rattle.task_syntax.specs.Names.{word_count}
use Rattle.nv_memory.specs.InRange.{InRange, IsClosed}
use Rattle.nv_memory.specs.Ring.{held_count}
use Rattle.nv_memory.specs.Seats.{Memory}
use Rattle.nv_memory.specs.State.{Change, State, first_undone, put, state}
use Rattle.nv_memory.specs.Words.{doomed, mark, next}
use Rattle.serial_log.specs.declared.held.Held.{Held}
use Rattle.buffi_sets.specs.Undo.{undo_changes}
use Rattle.commit_log.specs.Laws.{IsCommitWrite}
use Rattle.commit_log.proofs.Commits.{commit_of}
use Rattle.codegen.specs.Bodies.{program_code}
use Rattle.word_cpu.specs.declared.cpu.Cpu.{Cpu}
use Rattle.coati_device.specs.declared.device.Phase.{Phase}
use Rattle.coati_device.specs.declared.device.Phase.TheVariants.{Choose, Run, End, EndBottom}
use Rattle.coati_device.specs.Attempt.{IsAttempt, IsRunningIn}
use Rattle.coati_pace.specs.declared.effort.Stage.TheVariants.{EndsTask}
use Rattle.coati_pace.specs.Acts.{IsStep}
use Rattle.coati_pace.specs.Acts.IsStep.{applies, applies_below}
use Rattle.coati_pace.specs.Effort.{shape_of}
use Rattle.device_pace.specs.Effort.{cleaning_of, effort_at, is_begun, is_prepared, place_behind, stage_of, writes_under_way}
use Rattle.device_pace.proofs.Cleaning.{cleaning_within}
use Rattle.device_pace.proofs.Places.{reads}
use Rattle.device_pace.proofs.UndoWrites.{undoes}
use Rattle.device_pace.proofs.Writes.{commits, next_kept}

module _ (program : Program) (mode : Mode) (m : Memory) (rest : List Held) (read : List Reading)
    (words : m.n ≡ word_count program.vars) where
  abbrev s : State
  s = state m

  -- one write fewer is left, where memory alone tells what is next
  chosen : (t : State) (phase : Phase) → phase ≡ Choose → t.n ≡ word_count program.vars →
      writes_under_way t < writes_under_way s → held_count t ≡ held_count s →
      place_behind t ≡ place_behind s →
      IsStep (shape_of program) mode (effort_at s phase) (effort_at t phase)
  chosen t phase is wide fewer held place =
      applies (writes_under_way s) (writes_under_way t) (held_count s) (cleaning_of s)
      (cleaning_of t) (place_behind s) (is_begun s) (is_begun t) fewer
      (cleaning_within program t wide)
      (reads s phase Choose _ _ _ _ is refl refl refl refl)
      (reads t phase Choose _ _ _ _ is refl held place refl)

  -- or below a task that has ended
  below : (change : Change) (phase : Phase) (place : ℕ) → phase ≡ End place →
      IsCommitWrite s change → mark s ≢ 1 → mark s ≢ 2 →
      IsStep (shape_of program) mode (effort_at s phase) (effort_at (put s change) phase)
  below change phase place is next_is first second =
      let t = put s change in
      let c = commits s change next_is in
      let stays : stage_of t (End place) ≡ EndsTask (next s == place) (is_prepared t) =
      ap (λ (n : ℕ). EndsTask (n == place) (is_prepared t))
      (next_kept s change (commit_of s change next_is) first second) in
      applies_below (writes_under_way s) (writes_under_way t) (held_count s) (place_behind s)
      (next s == place) (is_prepared s) (is_prepared t) c.fewer
      (reads s phase (End place) _ _ _ _ is refl refl refl refl)
      (reads t phase (End place) _ _ _ _ is refl c.held c.place stays)

  -- no other attempt is there under a commit
  running_marked : (cpu : Cpu) (left : ℕ) (body : BodyId) → mark s ≢ 0 →
      IsRunningIn program (program_code program) m rest read cpu left body → ⊥
  running_marked cpu left (Task task) marked runs = marked runs.at.clear.mark
  running_marked cpu left (Top event) marked runs = runs
  running_marked cpu left (Bottom event) marked runs = marked runs.at.clear.mark

  running_doomed : (cpu : Cpu) (left : ℕ) (body : BodyId) → doomed s ≢ 0 →
      IsRunningIn program (program_code program) m rest read cpu left body → ⊥
  running_doomed cpu left (Task task) doom runs = doom runs.at.clear.doomed
  running_doomed cpu left (Top event) doom runs = runs
  running_doomed cpu left (Bottom event) doom runs = doom runs.at.clear.doomed

  pub commit_step : (change : Change) (phase : Phase) → IsCommitWrite s change →
      IsAttempt program (program_code program) m rest read phase →
      IsStep (shape_of program) mode (effort_at s phase) (effort_at (put s change) phase)
  commit_step change Choose next_is attempt =
      let c = commits s change next_is in
      chosen (put s change) Choose refl words c.fewer c.held c.place
  commit_step change (Run cpu left) next_is attempt =
      absurd (running_marked cpu left cpu.body (commits s change next_is).marked attempt)
  commit_step change (End place) next_is attempt =
      let on = (commits s change next_is).marked in
      below change (End place) place refl next_is
      (λ one. elim attempt.at.mark [
        | inl none ↦ on none
        | inr three ↦ omega (arith, one, three)
      ])
      (λ two. elim attempt.at.mark [
        | inl none ↦ on none
        | inr three ↦ omega (arith, two, three)
      ])
  commit_step change EndBottom next_is attempt =
      absurd ((commits s change next_is).marked attempt.at.clear.mark)

  pub undo_step : (change : Change) (phase : Phase) → InRange s → IsClosed s → mark s ≡ 0 →
      first_undone s (undo_changes s) ≡ Some change →
      IsAttempt program (program_code program) m rest read phase →
      IsStep (shape_of program) mode (effort_at s phase) (effort_at (put s change) phase)
  undo_step change Choose range closed clear next_is attempt =
      let u = undoes s change range closed clear next_is in
      chosen (put s change) Choose refl words u.fewer u.held u.place
  undo_step change (Run cpu left) range closed clear next_is attempt =
      let doom = (undoes s change range closed clear next_is).doomed in
      absurd (running_doomed cpu left cpu.body (λ none. omega (arith, doom, none)) attempt)
  undo_step change (End place) range closed clear next_is attempt =
      let doom = (undoes s change range closed clear next_is).doomed in
      absurd (omega (arith, doom, attempt.at.doomed))
  undo_step change EndBottom range closed clear next_is attempt =
      let doom = (undoes s change range closed clear next_is).doomed in
      absurd (omega (arith, doom, attempt.at.clear.doomed))
