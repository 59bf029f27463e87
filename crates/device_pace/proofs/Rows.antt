-- Each row, with the time behind it, is an act.
use Rattle.std.proofs.Common.{◌≡◌, ℕ, ◌+◌, ◌≤◌, refl, sym, ap, subst, arith, length, Option, Some, None}
use Rattle.coati_word.specs.declared.ending.Ending.{Ending}
use Rattle.task_syntax.specs.declared.body.BodyId.{BodyId}
use Rattle.task_syntax.specs.declared.body.BodyId.TheVariants.{Bottom, Task, Top}
use Rattle.task_syntax.specs.CourseLaws.{AccessesJoinUp, CoursesUnderWayGoOn}
use Rattle.task_syntax.specs.Names.{tasks}
use Rattle.task_syntax.specs.Units.{transaction_of}
use Rattle.task_check.specs.Accepted.{IsAccepted}
use Rattle.task_cost.specs.Limits.{attempt_bound}
use Rattle.nv_memory.specs.Blank.{mode_word}
use Rattle.nv_memory.specs.InRange.{InRange}
use Rattle.nv_memory.specs.Seats.{Memory}
use Rattle.nv_memory.specs.State.{Change, State, put, set_to, state}
use Rattle.nv_memory.specs.Words.{current, mark_seat, mode}
use Rattle.serial_log.specs.declared.mark.MarkKind.TheVariants.{Abort, Commit, Done}
use Rattle.serial_log.specs.Postings.{Terms}
use Rattle.serial_log.specs.Progresses.{IsOfTasks}
use Rattle.buffi_sets.specs.Flags.{FlagWritesSetOneFlag, UnflagWritesTakeOneBack}
use Rattle.task_buffer.specs.StoreLaws.{StoresSetTheValue}
use Rattle.word_code.specs.FollowingLaws.{FollowingGoesOn}
use Rattle.word_cpu.specs.declared.cpu.Cpu.{Cpu}
use Rattle.coati_device.specs.declared.device.Device.{Device}
use Rattle.coati_device.specs.declared.device.Phase.{Phase}
use Rattle.coati_device.specs.declared.device.Phase.TheVariants.{Choose, Run}
use Rattle.coati_device.specs.Kept.{emptied, unit_of}
use Rattle.coati_device.specs.Laws.{Fits, Rows}
use Rattle.coati_device.specs.Rows.{head_entry, phase_after, phase_of_bottom, steps_before_end}
use Rattle.coati_device.specs.Rows.IsRow.{applies, undoes, sleeps, empties, unflags, starts, runs, prepares, joins, commits}
use Rattle.coati_device.specs.Rows.IsRow.{empties_entry, starts_bottom, runs_bottom, prepares_event, commits_event}
use Rattle.coati_device.specs.Rows.IsRow.{aborts, prepares_drain, drains}
use Rattle.coati_device.specs.TaskView.{HasWritten}
use Rattle.coati_device.specs.Ticks.{passed}
use Rattle.coati_device.proofs.MemoryWrites.{state_written}
use Rattle.coati_pace.specs.Acts.{IsRestart, IsStep}
use Rattle.coati_pace.specs.Effort.{IsStage, shape_of}
use Rattle.coati_pace.specs.Running.{IsAct}
use Rattle.coati_pace.specs.Running.IsAct.{steps as by_step, sleeps as by_sleep, serves as by_event, progresses as by_task}
use Rattle.device_pace.specs.Effort.{effort_at, effort_of, stage_in, stage_of}
use Rattle.device_pace.specs.Running.{running_of}
use Rattle.device_pace.proofs.AbortRows.{abort_step}
use Rattle.device_pace.proofs.BodySteps.{runs_bottom_step, runs_step}
use Rattle.device_pace.proofs.ChoiceSteps.{empties_entry_step, empties_step, starts_bottom_step, starts_step, unflags_step}
use Rattle.device_pace.proofs.CommitSteps.{commit_step, undo_step}
use Rattle.device_pace.proofs.DrainSteps.{drains_step, prepares_drain_step}
use Rattle.device_pace.proofs.EndSteps.{prepares_step, progress}
use Rattle.device_pace.proofs.EventSteps.{commits_event_step, prepares_event_step}
use Rattle.device_pace.proofs.Idle.{idle_here, sleeping}
use Rattle.device_pace.proofs.Ranges.{in_range}

-- a unit of a task or transaction is one of tasks
of_tasks : (tx : Option ℕ) (task : ℕ) → IsOfTasks (unit_of tx task)
of_tasks None task = tt
of_tasks (Some tx) task = tt

module _ (joins_up : AccessesJoinUp) (on : CoursesUnderWayGoOn Ending) (follows : FollowingGoesOn)
    (stores : StoresSetTheValue) (flags : FlagWritesSetOneFlag) (back : UnflagWritesTakeOneBack)
    (terms : Terms) (old : Device) (rules : IsAccepted terms.program)
    (few : length (tasks terms.program) ≤ 64) (fits : Fits terms.program old)
    (mode_is : mode (state old.image) ≡ mode_word terms.mode) where
  abbrev m : Memory
  m = old.image

  abbrev s : State
  s = state m

  abbrev Acts : Device → Type 0
  Acts new = IsAct (shape_of terms.program) terms.mode (running_of old) (running_of (passed new))

  abbrev Lowers : State → Phase → Type 0
  Lowers t phase = IsStep (shape_of terms.program) terms.mode (effort_of old) (effort_at t phase)

  -- a step without a mark
  quiet : (new : Device) → Lowers (state new.image) new.phase → new.clock ≡ old.clock →
      new.history.marks ≡ old.history.marks → Acts new
  quiet new step clock same = by_step step (ap (λ (n : ℕ). n + 1) clock) same

  -- what stands behind a write
  written : (image : Memory) (change : Change) (phase : Phase) → HasWritten m change image →
      Lowers (put s change) phase → Lowers (state image) phase
  written image change phase wrote step =
      subst (λ (t : State). Lowers t phase)
      (sym (state_written m image change fits.memory.memory wrote)) step

  written_anew : (image : Memory) (marker : ℕ) → HasWritten m (set_to mark_seat marker) image →
      IsRestart (shape_of terms.program) terms.mode (effort_of old)
      (effort_at (put s (set_to mark_seat marker)) Choose) →
      IsRestart (shape_of terms.program) terms.mode (effort_of old)
      (effort_at (state image) Choose)
  written_anew image marker wrote restart =
      subst (λ (t : State). IsRestart (shape_of terms.program) terms.mode (effort_of old)
      (effort_at t Choose))
      (sym (state_written m image (set_to mark_seat marker) fits.memory.memory wrote)) restart

  range_then : (image : Memory) (change : Change) → HasWritten m change image →
      InRange (state image) → InRange (put s change)
  range_then image change wrote range =
      subst InRange (state_written m image change fits.memory.memory wrote) range

  -- a body that starts is within an attempt
  attempts_are_some : (cpu : Cpu) (body : BodyId) → cpu.body ≡ body → (new : Device) →
      new.phase ≡ Run cpu (steps_before_end terms.program) → Fits terms.program new →
      2 ≤ attempt_bound terms.program
  attempts_are_some cpu body is new running fits_now =
      let range : IsStage (shape_of terms.program) (stage_of (state new.image) new.phase) =
      (in_range terms.program new fits_now).stage in
      within body (subst (λ (b : BodyId). IsStage (shape_of terms.program)
      (stage_in (steps_before_end terms.program) b)) is
      (subst (λ (phase : Phase). IsStage (shape_of terms.program)
      (stage_of (state new.image) phase)) running range))
    where
      within : (body : BodyId) → IsStage (shape_of terms.program)
          (stage_in (steps_before_end terms.program) body) → 2 ≤ attempt_bound terms.program
      within (Task task) low = omega (arith, low)
      within (Top event) low = omega (arith, low)
      within (Bottom event) low = omega (arith, low)

  pub row_acts : (new : Device) → Fits terms.program new → Rows terms.program old new → Acts new
  row_acts new fits_now row =
      let program = terms.program in
      let words = fits.memory.words in
      let range = fits.memory.range in
      let closed = fits.memory.closed in
      elim row [
        | applies change image next wrote is ↦ subst Acts (sym is)
            (quiet (record old { image = image })
            (written image change old.phase wrote
            (commit_step program terms.mode m _ old.attempt.items words change old.phase
            (record { range = range; closed = closed; next = next }) fits.attempt)) refl refl)
        | undoes change image clear next wrote is ↦ subst Acts (sym is)
            (quiet (record old { image = image })
            (written image change old.phase wrote
            (undo_step program terms.mode m _ old.attempt.items words change old.phase range
            closed clear next fits.attempt)) refl refl)
        | sleeps chooses halted is ↦ subst Acts (sym is)
            (by_sleep (idle_here program old rules few fits chooses.phase
            (sleeping program old rules few fits chooses halted)) refl refl refl)
        | empties image chooses going some wrote is ↦ subst Acts (sym is)
            (quiet (record old { image = image })
            (written image _ old.phase wrote
            (empties_step program terms.mode s old.phase chooses.phase chooses.clear words
            mode_is chooses.tasks going some)) refl refl)
        | unflags change image chooses going none buffi next wrote is ↦ subst Acts (sym is)
            (quiet (record old { image = image })
            (written image change old.phase wrote
            (unflags_step program terms.mode s old.phase chooses.phase chooses.clear words
            mode_is back change range closed chooses.tasks going buffi next)) refl refl)
        | starts cpu chooses going none free start is ↦ subst Acts (sym is)
            (quiet (record old { phase = Run cpu (steps_before_end program) })
            (starts_step program terms.mode s old.phase chooses.phase chooses.clear words mode_is
            cpu chooses.tasks going start.body_is
            (attempts_are_some cpu (Task (current s)) start.body_is
            (record old {
              phase = Run cpu (steps_before_end program);
              attempt = emptied old.attempt;
            }) refl (subst (Fits program) is fits_now))) refl refl)
        | runs before after left image turn running body clear step is ↦ subst Acts (sym is)
            (quiet (record old { image = image; phase = phase_after after left turn })
            (runs_step joins_up on follows program terms.mode old before after left image fits
            running stores flags body turn step) refl refl)
        | prepares place image ends other wrote is ↦ subst Acts (sym is)
            (quiet (record old { image = image })
            (written image _ old.phase wrote
            (prepares_step program terms.mode s old.phase place ends.phase ends.clear words
            mode_is ends.tasks other)) refl refl)
        | joins place image ends there inside wrote is ↦
            let range_now = range_then image _ wrote
            (subst (Fits program) is fits_now).memory.range in
            subst Acts (sym is) (by_task (Done (current s)) tt
            (written_anew image 1 wrote
            (progress program terms.mode s old.phase place ends.phase ends.clear words mode_is
            ends.tasks 1 range_now (λ three. absurd cc) there)) refl refl)
        | commits place image ends there outside wrote is ↦
            let range_now = range_then image _ wrote
            (subst (Fits program) is fits_now).memory.range in
            subst Acts (sym is) (by_task (Commit _)
            (of_tasks (transaction_of program (current s)) (current s))
            (written_anew image 2 wrote
            (progress program terms.mode s old.phase place ends.phase ends.clear words mode_is
            ends.tasks 2 range_now (λ three. absurd cc) there)) refl refl)
        | empties_entry image chooses some wrote is ↦ subst Acts (sym is)
            (quiet (record old { image = image })
            (written image _ old.phase wrote
            (empties_entry_step program terms.mode s old.phase chooses.phase chooses.clear words
            mode_is chooses.events some)) refl refl)
        | starts_bottom cpu chooses none start is ↦ subst Acts (sym is)
            (quiet (record old { phase = Run cpu (steps_before_end program) })
            (starts_bottom_step program terms.mode s old.phase chooses.phase chooses.clear words
            mode_is chooses.events cpu (head_entry s).event none start.body_is
            (attempts_are_some cpu (Bottom (head_entry s).event) start.body_is
            (record old {
              phase = Run cpu (steps_before_end program);
              attempt = emptied old.attempt;
            }) refl (subst (Fits program) is fits_now))) refl refl)
        | runs_bottom before after left image turn running body clear events step is ↦
            subst Acts (sym is)
            (quiet (record old { image = image; phase = phase_of_bottom after left turn })
            (runs_bottom_step joins_up on follows program terms.mode old before after left image
            fits running body turn step (subst (Fits program) is fits_now)) refl refl)
        | prepares_event image ends other wrote is ↦ subst Acts (sym is)
            (quiet (record old { image = image })
            (written image _ old.phase wrote
            (prepares_event_step program terms.mode s old.phase ends.phase ends.clear ends.events
            words mode_is other)) refl refl)
        | commits_event image ends next wrote is ↦ subst Acts (sym is)
            (by_event (Commit _) tt
            (written image _ Choose wrote
            (commits_event_step program terms.mode s old.phase ends.phase ends.clear ends.events
            words mode_is range next)) refl refl)
        | aborts word image draining clash changed is ↦ subst Acts (sym is)
            (by_event (Abort _) tt
            (abort_step program terms.mode old image rules few fits draining mode_is word clash
            changed) refl refl)
        | prepares_drain image free other wrote is ↦ subst Acts (sym is)
            (quiet (record old { image = image })
            (written image _ old.phase wrote
            (prepares_drain_step program terms.mode s free.drains.clear free.drains.mode
            free.drains.held words mode_is old.phase free.drains.phase other)) refl refl)
        | drains image free next wrote is ↦ subst Acts (sym is)
            (by_event (Commit _) tt
            (written image _ old.phase wrote
            (drains_step program terms.mode s free.drains.clear free.drains.mode
            free.drains.held words mode_is old.phase free.drains.phase range next)) refl refl)
      ]
