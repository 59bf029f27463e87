-- Where nothing is to do, by memory and by the effort.
use Rattle.std.proofs.Common.{◌≡◌, ◌==◌, ◌≤◌, ℕ, refl, sym, ap, subst, ◌∙◌, arith, inl, inr, Some, None, Option, List, [], ◌∷◌, ◌++◌, length, Bool, true, false, if◌then◌else◌}
use Rattle.std.proofs.lemmas.Bool.{cases_eq}
use Rattle.std.proofs.lemmas.Bool.Decides.{nat_tests}
use Rattle.coati_word.specs.declared.reading.Reading.{Reading}
use Rattle.task_syntax.specs.declared.body.BodyId.{BodyId}
use Rattle.task_syntax.specs.declared.body.BodyId.TheVariants.{Bottom, Task, Top}
use Rattle.task_syntax.specs.declared.program.Program.{Program}
use Rattle.task_syntax.specs.Names.{tasks}
use Rattle.task_syntax.specs.Units.{halt, is_inside, is_same, transaction_of}
use Rattle.task_check.specs.Accepted.{IsAccepted}
use Rattle.nv_memory.specs.StandsFor.{IsIdle}
use Rattle.nv_memory.specs.State.{Change, State, first_undone, set_to, state}
use Rattle.nv_memory.specs.Words.{current, current_seat, doomed, doomed_seat, first, mark, opened, opened_seat}
use Rattle.serial_log.specs.declared.held.Held.{Held}
use Rattle.serial_log.specs.SerialRun.{Stand}
use Rattle.serial_log.specs.Standing.{standing_of}
use Rattle.tx_buffer.specs.Clear.{clear_changes}
use Rattle.tx_buffer.proofs.Undone.{done_both, head_done}
use Rattle.buffi_sets.specs.Undo.{restart_changes, undo_changes, undo_left}
use Rattle.buffi_sets.proofs.Ending.{undo_ends}
use Rattle.commit_log.specs.Left.{writes_left}
use Rattle.commit_log.proofs.Ends.{none_left}
use Rattle.codegen.specs.Bodies.{program_code}
use Rattle.word_cpu.specs.declared.cpu.Cpu.{Cpu}
use Rattle.coati_device.specs.declared.device.Device.{Device}
use Rattle.coati_device.specs.declared.device.Phase.{Phase}
use Rattle.coati_device.specs.declared.device.Phase.TheVariants.{Choose, Run, End, EndBottom}
use Rattle.coati_device.specs.Attempt.{IsAttempt, IsRunningIn}
use Rattle.coati_device.specs.Laws.{Fits}
use Rattle.coati_device.specs.OpenUnit.{HasFinished, OpenUnitFits, UnitFits, has_unit}
use Rattle.coati_device.specs.Rows.{Chooses}
use Rattle.coati_device.proofs.Members.{none_behind}
use Rattle.coati_device.proofs.OpenedUnits.{one_open}
use Rattle.coati_device.proofs.UnitGrows.{next_at_clear, open_at_clear, place_closed}
use Rattle.coati_pace.specs.Acts as act
use Rattle.device_pace.specs.Effort.{cleaning_of, effort_of, is_begun, stage_of, writes_under_way}
use Rattle.device_pace.proofs.Places.{clear_writes, halted, of_halted}
use Rattle.device_pace.proofs.UndoWrites.{clear_undo}

same_none : (own : Option ℕ) → is_same own None ≡ false
same_none None = refl
same_none (Some tx) = refl

-- no unit goes on where no task is to run
pub no_unit_at_halt : (program : Program) (s : State) (stand : Stand) (read : List Reading)
    (finished : ℕ) → IsAccepted program → mark s ≡ 0 → current s ≡ halt →
    OpenUnitFits program s stand read finished → has_unit s ≡ false
no_unit_at_halt program s stand read finished accepted clear over fits = by (has_unit s) refl
  where
    by : (b : Bool) → has_unit s ≡ b → has_unit s ≡ false
    by false is = is
    by true is =
        let whole : HasFinished program s stand read finished =
        subst (UnitFits program s stand read finished) is fits in
        let next : whole.reached.place ≡ halt =
        sym whole.next ∙ sym (next_at_clear s clear) ∙ over in
        let none : transaction_of program whole.reached.place ≡ None =
        ap (transaction_of program) next ∙ none_behind program accepted in
        let outside : is_inside program stand.place whole.reached.place ≡ false =
        ap (is_same (transaction_of program stand.place)) none
        ∙ same_none (transaction_of program stand.place) in
        let inside = whole.inside in
        absurd cc

-- a device whose memory has nothing to do has nothing to do
module _ (program : Program) (d : Device) (rules : IsAccepted program)
    (few : length (tasks program) ≤ 64) (fits : Fits program d) where
  abbrev s : State
  s = state d.image

  abbrev rest : List Held
  rest = (standing_of program d.history.marks).rest

  pub idle_here : d.phase ≡ Choose → IsIdle s → act.IsIdle (effort_of d)
  idle_here phase idle =
      let none : has_unit s ≡ false =
      no_unit_at_halt program s (standing_of program d.history.marks).run d.unit.items d.finished
      rules idle.mark idle.current fits.unit in
      let shut : (opened s == 1) ≡ false =
      sym (open_at_clear s (opened s == 1) (record { mark = idle.mark; doomed = idle.doomed })
      refl) ∙ none in
      record {
        writes = clear_writes s idle.mark idle.doomed;
        held = idle.held;
        place = halted s none (place_closed s idle.mark shut ∙ idle.current);
        cleaning = cleaning_of s;
        begun = is_begun s;
        stage = ap (stage_of s) phase;
      }

  -- where it sleeps, memory has nothing to do
  pub sleeping : Chooses d → current s ≡ halt → IsIdle s
  sleeping chooses over = record {
    current = over;
    mark = chooses.clear.mark;
    doomed = chooses.clear.doomed;
    held = elim chooses.tasks [
      | inl none ↦ none
      | inr is_open ↦
          let unit = one_open s chooses.clear is_open.1 in
          let none = no_unit_at_halt program s (standing_of program d.history.marks).run
          d.unit.items d.finished rules chooses.clear.mark over fits.unit in
          absurd cc
    ];
  }

  none_runs : (cpu : Cpu) (left : ℕ) (body : BodyId) → IsIdle s →
      IsRunningIn program (program_code program) d.image rest d.attempt.items cpu left body → ⊥
  none_runs cpu left (Task task) idle runs =
      let low = runs.at.task in let over = idle.current in omega (arith, few, low, over)
  none_runs cpu left (Top event) idle runs = runs
  none_runs cpu left (Bottom event) idle runs =
      let some = runs.at.events.held in let none = idle.held in omega (arith, some, none)

  -- no attempt is under way then
  chooses_by : (phase : Phase) → IsIdle s →
      IsAttempt program (program_code program) d.image rest d.attempt.items phase →
      phase ≡ Choose
  chooses_by Choose idle attempt = refl
  chooses_by (Run cpu left) idle attempt = absurd (none_runs cpu left cpu.body idle attempt)
  chooses_by (End place) idle attempt =
      let low = attempt.at.task in let over = idle.current in
      absurd (omega (arith, few, low, over))
  chooses_by EndBottom idle attempt =
      let some = attempt.at.events.held in let none = idle.held in
      absurd (omega (arith, some, none))

  pub idle_by_memory : IsIdle s → act.IsIdle (effort_of d)
  idle_by_memory idle = idle_here (chooses_by d.phase idle fits.attempt) idle

  -- while a commit or an undo is under way writes are left
  no_commit : writes_under_way s ≡ 0 → mark s ≡ 0
  no_commit none = by (mark s == 0) refl none
    where
      by : (b : Bool) → (mark s == 0) ≡ b → (if b then undo_left s else writes_left s) ≡ 0 →
          mark s ≡ 0
      by true is none = grind (arith, nat_tests)
      by false is none = (none_left s fits.memory.range).0 none

  undo_over : doomed s ≡ 1 → undo_left s ≡ 0 → ⊥
  undo_over doom none =
      let changes : undo_changes s ≡ clear_changes s ++ restart_changes s = rw doom refl in
      let done = subst (λ (all : List Change). first_undone s all ≡ None) changes
      ((undo_ends s).none.0 none) in
      let restarted = (done_both s (clear_changes s) (restart_changes s) done).1 in
      let back = (head_done s (set_to current_seat (first s))
      (set_to opened_seat 0 ∷ set_to doomed_seat 0 ∷ []) restarted).1 in
      let closed = (head_done s (set_to opened_seat 0) (set_to doomed_seat 0 ∷ []) back).1 in
      let over = (head_done s (set_to doomed_seat 0) [] closed).0 in
      omega (arith, doom, over)

  no_undo : mark s ≡ 0 → writes_under_way s ≡ 0 → doomed s ≡ 0
  no_undo clear none =
      let left : undo_left s ≡ 0 = sym (clear_undo s clear) ∙ none in
      let low = fits.memory.range.doomed in
      elim (cases_eq (doomed s) 1) [
        | inl doom ↦ absurd (undo_over doom left)
        | inr live ↦ omega (arith, low, live)
      ]

  pub idle_in_memory : act.IsIdle (effort_of d) → IsIdle s
  idle_in_memory idle =
      let clear = no_commit idle.writes in
      let live = no_undo clear idle.writes in
      let over = of_halted s idle.place in
      let shut : (opened s == 1) ≡ false =
      sym (open_at_clear s (opened s == 1) (record { mark = clear; doomed = live }) refl)
      ∙ over.0 in
      record {
        current = sym (place_closed s clear shut) ∙ over.1;
        mark = clear;
        doomed = live;
        held = idle.held;
      }
