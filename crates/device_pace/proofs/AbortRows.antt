-- The row of a unit that is given up, by whether its transaction is open.
use Rattle.std.proofs.Common.{◌≡◌, ◌≢◌, ◌==◌, ◌≤◌, ℕ, refl, sym, subst, ◌∙◌, arith, Some, None, length, Bool, true, false, if◌then◌else◌}
use Rattle.coati_word.specs.declared.mode.Mode.{Mode}
use Rattle.task_syntax.specs.declared.program.Program.{Program}
use Rattle.task_syntax.specs.Names.{tasks}
use Rattle.task_syntax.specs.Units.{halt}
use Rattle.task_check.specs.Accepted.{IsAccepted}
use Rattle.nv_memory.specs.Blank.{mode_word}
use Rattle.nv_memory.specs.Seats.{Memory}
use Rattle.nv_memory.specs.StandsFor.{place_of}
use Rattle.nv_memory.specs.State.{State, put, state}
use Rattle.nv_memory.specs.Words.{mode, opened}
use Rattle.serial_log.specs.Standing.{standing_of}
use Rattle.buffi_sets.specs.Conflict.{IsConflict}
use Rattle.buffi_sets.specs.Undo.{doom_change}
use Rattle.codegen.specs.Bodies.{program_code}
use Rattle.coati_device.specs.declared.device.Device.{Device}
use Rattle.coati_device.specs.declared.device.Phase.{Phase}
use Rattle.coati_device.specs.declared.device.Phase.TheVariants.{Choose, Run, End, EndBottom}
use Rattle.coati_device.specs.Attempt.{HasEnded, IsAttempt}
use Rattle.coati_device.specs.Laws.{Fits}
use Rattle.coati_device.specs.OpenUnit.{has_unit}
use Rattle.coati_device.specs.Rows.{Drains, IsBetween, abort_change, has_attempt}
use Rattle.coati_device.specs.TaskView.{IsAfter}
use Rattle.coati_device.proofs.MemoryWrites.{state_written}
use Rattle.coati_device.proofs.UnitGrows.{open_at_clear, place_closed}
use Rattle.coati_pace.specs.Acts.{IsStep}
use Rattle.coati_pace.specs.Effort.{shape_of}
use Rattle.device_pace.specs.Effort.{effort_at, effort_of}
use Rattle.device_pace.proofs.AbortSteps.{aborts_step, clash_opened, drops_closed_step, drops_open_step, unit_at_task}

module _ (program : Program) (m : Mode) (old : Device) (image : Memory)
    (rules : IsAccepted program) (few : length (tasks program) ≤ 64) (fits : Fits program old) (drains : Drains old)
    (mode_is : mode (state old.image) ≡ mode_word m) where
  abbrev s : State
  s = state old.image

  abbrev Lowers : Memory → Type 0
  Lowers now = IsStep (shape_of program) m (effort_of old) (effort_at (state now) Choose)

  -- the unit begins at a task
  open_at_task : has_unit s ≡ true → place_of s ≢ halt
  open_at_task unit over =
      unit_at_task program s (standing_of program old.history.marks).run old.unit.items
      old.finished rules unit fits.unit (sym fits.stands.place ∙ over)

  alone_at_task : (place : ℕ) → old.phase ≡ End place → (opened s == 1) ≡ false →
      place_of s ≢ halt
  alone_at_task place is shut over =
      let ended : HasEnded program old.image old.attempt.items place =
      subst (IsAttempt program (program_code program) old.image
      (standing_of program old.history.marks).rest old.attempt.items) is fits.attempt in
      let low = ended.at.task in
      let here = sym (place_closed s drains.clear.mark shut) ∙ over in
      omega (arith, few, low, here)

  doomed_then : IsAfter old.image (Some doom_change) image →
      IsStep (shape_of program) m (effort_of old)
      (effort_at (put s doom_change) Choose) → Lowers image
  doomed_then wrote step =
      subst (λ (x : State). IsStep (shape_of program) m (effort_of old) (effort_at x Choose))
      (sym (state_written old.image image doom_change fits.memory.memory wrote)) step

  chosen_by : (is_open : Bool) → (opened s == 1) ≡ is_open → is_open ≡ true →
      old.phase ≡ Choose →
      IsAfter old.image (if is_open then Some doom_change else None) image → Lowers image
  chosen_by false is never phase wrote = absurd cc
  chosen_by true is here phase wrote =
      let unit : has_unit s ≡ true = open_at_clear s true drains.clear is in
      doomed_then wrote
      (aborts_step program m s drains.clear drains.mode drains.held fits.memory.words mode_is
      old.phase phase unit (open_at_task unit))

  ended_by : (is_open : Bool) → (opened s == 1) ≡ is_open → (place : ℕ) →
      old.phase ≡ End place →
      IsAfter old.image (if is_open then Some doom_change else None) image → Lowers image
  ended_by true is place phase wrote =
      let unit : has_unit s ≡ true = open_at_clear s true drains.clear is in
      doomed_then wrote
      (drops_open_step program m s drains.clear drains.mode drains.held fits.memory.words mode_is
      old.phase place phase (open_at_task unit))
  ended_by false is place phase same =
      let unit : has_unit s ≡ false = open_at_clear s false drains.clear is in
      subst Lowers (sym same)
      (drops_closed_step program m s drains.clear drains.mode drains.held fits.memory.words
      mode_is old.phase place phase unit (alone_at_task place phase is))

  abort_in : (word : ℕ) (phase : Phase) → old.phase ≡ phase → IsBetween phase →
      IsConflict s (has_attempt phase) word → IsAfter old.image (abort_change s) image →
      Lowers image
  abort_in word Choose is between conflict wrote =
      chosen_by (opened s == 1) refl (clash_opened s word conflict) is wrote
  abort_in word (Run cpu left) is between conflict wrote = absurd between
  abort_in word (End place) is between conflict wrote =
      ended_by (opened s == 1) refl place is wrote
  abort_in word EndBottom is between conflict wrote = absurd between

  pub abort_step : (word : ℕ) → IsConflict s (has_attempt old.phase) word →
      IsAfter old.image (abort_change s) image → Lowers image
  abort_step word conflict wrote = abort_in word old.phase refl drains.phase conflict wrote
