-- Writes of an undo leave that memory fits where the history leads. A unit that is given up counts
-- no more from the first of them on, and no attempt is under way.
use Rattle.std.proofs.Common.{◌≡◌, ◌≢◌, ◌==◌, ℕ, refl, sym, subst, arith, inl, inr, Some, Bool, List, [], ◌∷◌, ◌++◌, length, true, false, if◌then◌else◌}
use Rattle.std.proofs.lemmas.Bool.Decides.{nat_tests}
use Rattle.coati_word.specs.declared.reading.Reading.{Reading}
use Rattle.task_syntax.specs.declared.program.Program.{Program}
use Rattle.task_syntax.specs.declared.body.BodyId.{BodyId}
use Rattle.task_syntax.specs.declared.body.BodyId.TheVariants.{Bottom, Task, Top}
use Rattle.task_syntax.specs.Names.{tasks}
use Rattle.serial_log.specs.declared.held.Held.{Held}
use Rattle.serial_log.specs.Standing.{Standing, standing_of}
use Rattle.nv_memory.specs.Seats.{Memory}
use Rattle.nv_memory.specs.Logs.{tx_log}
use Rattle.nv_memory.specs.State.{Change, State, first_undone, put, set_to, state}
use Rattle.nv_memory.specs.Words.{current_seat, doomed, doomed_seat, first, mark, mode, opened, opened_seat, tx_flag_seat}
use Rattle.tx_buffer.specs.Clear.{clear_changes, unflag_changes}
use Rattle.tx_buffer.specs.Next.{changes_below}
use Rattle.tx_buffer.proofs.Undone.{head_split, undone_at, undone_split}
use Rattle.buffi_sets.specs.Undo.{UndoWritesKeep, restart_changes, undo_changes}
use Rattle.word_code.specs.Code.{Bodies}
use Rattle.word_cpu.specs.declared.cpu.Cpu.{Cpu}
use Rattle.codegen.specs.Bodies.{program_code}
use Rattle.coati_device.specs.declared.device.Device.{Device}
use Rattle.coati_device.specs.declared.device.Phase.{Phase}
use Rattle.coati_device.specs.declared.device.Phase.TheVariants.{Choose, Run, End, EndBottom}
use Rattle.coati_device.specs.Attempt.{IsAttempt, IsRunningIn}
use Rattle.coati_device.specs.Laws.{Fits}
use Rattle.coati_device.specs.OpenUnit.{has_unit}
use Rattle.coati_device.specs.Points.{IsFit, Reads, reads_of}
use Rattle.coati_device.specs.TaskView.{HasWritten}
use Rattle.coati_device.proofs.MemoryWrites.{fit_written}
use Rattle.coati_device.proofs.OpenUnits.{no_unit_kept}

-- what a write of an undo makes of the mode and of the unit
pub record AfterUndo (s t : State) : Type 0 where
  pub same_mode : mode t ≡ mode s
  pub no_unit : has_unit t ≡ false

-- where it goes on, the unit is given up still
goes_on : (s t : State) → mode t ≡ mode s → mark t ≡ 0 → doomed t ≡ 1 → AfterUndo s t
goes_on s t same clear doom = record { same_mode = same; no_unit = rw (clear, doom) refl }

-- the log and the flags go
clearing : (s : State) (change : Change) → mark s ≡ 0 → doomed s ≡ 1 →
    first_undone s (clear_changes s) ≡ Some change → AfterUndo s (put s change)
clearing s change clear doom next =
    elim (head_split s (set_to tx_log.length 0) change (changes_below unflag_changes s.n) next) [
      | inl here ↦ subst (λ (c : Change). AfterUndo s (put s c)) here.1
          (goes_on s (put s (set_to tx_log.length 0)) refl clear doom)
      | inr rest ↦
          let at = undone_at s unflag_changes s.n change rest.1 in
          elim (head_split s (set_to (tx_flag_seat at.i) 0) change [] at.here) [
            | inl here ↦ subst (λ (c : Change). AfterUndo s (put s c)) here.1
                (goes_on s (put s (set_to (tx_flag_seat at.i) 0)) refl clear doom)
            | inr none ↦ absurd (let never = none.1 in cc)
          ]
    ]

-- the transaction is closed when the doom goes
over : (s : State) → mark s ≡ 0 → opened s ≡ 0 → AfterUndo s (put s (set_to doomed_seat 0))
over s clear shut = record { same_mode = refl; no_unit = rw (clear, shut) refl }

-- the program goes back
restarting : (s : State) (change : Change) → mark s ≡ 0 → doomed s ≡ 1 →
    first_undone s (restart_changes s) ≡ Some change → AfterUndo s (put s change)
restarting s change clear doom next =
    elim (head_split s (set_to current_seat (first s)) change
    (set_to opened_seat 0 ∷ set_to doomed_seat 0 ∷ []) next) [
      | inl here ↦ subst (λ (c : Change). AfterUndo s (put s c)) here.1
          (goes_on s (put s (set_to current_seat (first s))) refl clear doom)
      | inr at ↦
          elim (head_split s (set_to opened_seat 0) change (set_to doomed_seat 0 ∷ []) at.1) [
            | inl here ↦ subst (λ (c : Change). AfterUndo s (put s c)) here.1
                (goes_on s (put s (set_to opened_seat 0)) refl clear doom)
            | inr shut ↦ elim (head_split s (set_to doomed_seat 0) change [] shut.1) [
              | inl here ↦ subst (λ (c : Change). AfterUndo s (put s c)) here.1
                  (over s clear shut.0)
              | inr none ↦ absurd (let never = none.1 in cc)
            ]
          ]
    ]

undo_step : (s : State) (change : Change) (b : Bool) → (doomed s == 1) ≡ b → mark s ≡ 0 →
    first_undone s (if b then clear_changes s ++ restart_changes s else []) ≡ Some change →
    (doomed s ≡ 1) × AfterUndo s (put s change)
undo_step s change false is clear next = absurd cc
undo_step s change true is clear next =
    let doom : doomed s ≡ 1 = grind (arith, nat_tests) in (
      doom,
      elim (undone_split s (clear_changes s) (restart_changes s) change next) [
        | inl here ↦ clearing s change clear doom here
        | inr rest ↦ restarting s change clear doom rest.1
      ],
    )

-- a unit is given up where an undo has a write to make
pub after_undo : (s : State) (change : Change) → mark s ≡ 0 →
    first_undone s (undo_changes s) ≡ Some change → (doomed s ≡ 1) × AfterUndo s (put s change)
after_undo s change clear next = undo_step s change (doomed s == 1) refl clear next

-- each write of an undo leaves the mode
pub undoing_leaves_mode : (s : State) (change : Change) → mark s ≡ 0 →
    first_undone s (undo_changes s) ≡ Some change → mode (put s change) ≡ mode s
undoing_leaves_mode s change clear next = (after_undo s change clear next).1.same_mode

-- no attempt is under way
module _ (program : Program) (code : Bodies) (m n : Memory) (rest : List Held) (read : List Reading)
    (doom : doomed (state m) ≡ 1) where
  calm_not : doomed (state m) ≢ 0
  calm_not calm = omega (arith, calm, doom)

  running_given_up : (cpu : Cpu) (left : ℕ) (body : BodyId) →
      IsRunningIn program code m rest read cpu left body →
      IsRunningIn program code n rest read cpu left body
  running_given_up cpu left (Task task) runs = absurd (calm_not runs.at.clear.doomed)
  running_given_up cpu left (Top number) runs = runs
  running_given_up cpu left (Bottom number) runs = absurd (calm_not runs.at.clear.doomed)

  attempt_given_up : (phase : Phase) → IsAttempt program code m rest read phase →
      IsAttempt program code n rest read phase
  attempt_given_up Choose attempt = tt
  attempt_given_up (Run cpu left) attempt = running_given_up cpu left cpu.body attempt
  attempt_given_up (End place) attempt = absurd (calm_not attempt.at.doomed)
  attempt_given_up EndBottom attempt = absurd (calm_not attempt.at.clear.doomed)

undo_fits : (program : Program) (code : Bodies) (m n : Memory) (change : Change) (reads : Reads)
    (phase : Phase) (standing : Standing) → UndoWritesKeep → mark (state m) ≡ 0 →
    first_undone (state m) (undo_changes (state m)) ≡ Some change → HasWritten m change n →
    IsFit program code m reads phase standing → IsFit program code n reads phase standing
undo_fits program code m n change reads phase standing law clear next writes fit =
    let s = state m in
    let keeps = law s change fit.memory.range fit.memory.closed clear next in
    let after = after_undo s change clear next in
    let no_unit : has_unit s ≡ false = rw (clear, after.0) refl in
    fit_written program code m n change reads phase standing writes
    (record {
      ranges = record {
        range = keeps.range;
        places = keeps.places (length (tasks program)) fit.memory.places;
        closed = keeps.closed;
        mode = rw after.1.same_mode fit.memory.mode;
      };
      same = keeps.meaning;
    })
    (no_unit_kept program s (put s change) standing.run reads.unit reads.finished no_unit
    after.1.no_unit fit.unit)
    (attempt_given_up program code m n standing.rest reads.attempt after.0 phase fit.attempt)
    fit

pub undoes_keep : (program : Program) (old new : Device) (change : Change) (image : Memory) →
    UndoWritesKeep → Fits program old → mark (state old.image) ≡ 0 →
    first_undone (state old.image) (undo_changes (state old.image)) ≡ Some change →
    HasWritten old.image change image → new ≡ record old { image = image } → Fits program new
undoes_keep program old new change image law fit clear next writes is =
    subst (Fits program) (sym is)
    (undo_fits program (program_code program) old.image image change (reads_of old) old.phase
    (standing_of program old.history.marks) law clear next writes fit)
