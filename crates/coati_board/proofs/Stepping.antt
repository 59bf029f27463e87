-- A step of a board.
use Rattle.std.proofs.Common.{◌≡◌, ℕ, suc, ◌+◌, ◌-◌, ◌<◌, ◌≤◌, ◌==◌, List, [], ◌∷◌, ◌++◌, refl, sym, ap, subst, ◌∙◌, arith, Bool, true, false, if◌then◌else◌, None}
use Rattle.codegen.specs.Bodies.{program_code}
use Rattle.coati_word.specs.declared.mode.Mode.{Mode}
use Rattle.task_syntax.specs.declared.program.Program.{Program}
use Rattle.serial_log.specs.declared.mark.Mark.{Mark}
use Rattle.serial_log.specs.declared.mark.MarkKind.TheVariants.{Abort, Boot, Commit, Done}
use Rattle.serial_log.specs.declared.abort.AbortOf.{AbortOf}
use Rattle.serial_log.specs.declared.posted.Posted.{Posted as Raised}
use Rattle.serial_log.specs.declared.record.Record.{Record}
use Rattle.serial_log.specs.declared.script.Script.{Script}
use Rattle.serial_log.specs.Marks.{raised_by, raised_postings}
use Rattle.nv_memory.specs.Seats.{Memory}
use Rattle.word_code.specs.Code.{Bodies}
use Rattle.coati_device.specs.declared.device.Device.{Device}
use Rattle.coati_device.specs.Laws.{AreRecordsGrown, HasStepped, StepsKeepSound}
use Rattle.device_pace.specs.Laws.{StepsKeepPace}
use Rattle.device_pace.specs.Running.{IsPaced}
use Rattle.coati_device.specs.Points.{HasRoomFor}
use Rattle.coati_device.specs.declared.device.Phase.{Phase}
use Rattle.coati_device.specs.declared.device.Phase.TheVariants.{Run}
use Rattle.coati_device.specs.Cursors.{AreCursors}
use Rattle.coati_device.specs.Kept.{Kept, after_turn, emptied}
use Rattle.coati_device.specs.Rows.{IsRow, IsStepOf, phase_after, phase_of_bottom, steps_before_end}
use Rattle.coati_device.specs.Rows.IsRow.{applies, undoes, sleeps, empties, unflags, starts, runs, prepares, joins, commits, empties_entry, starts_bottom, runs_bottom, prepares_event, commits_event, aborts, prepares_drain, drains}
use Rattle.coati_device.specs.Ticks.{cut, passed, ticked}
use Rattle.coati_device.proofs.CursorMoves.{cursors_stay}
use Rattle.coati_board.specs.Board.{IsBoard, end_of, end_of_kind, terms_of}

-- marks that end no run and raise no posting
record TellsNothing (more marks : List Mark) : Type 0 where
  ends : end_of more ≡ end_of marks
  raised : raised_postings more ≡ raised_postings marks

tells_behind : (first : Mark) (more marks : List Mark) → TellsNothing more marks →
    TellsNothing (first ∷ more) (first ∷ marks)
tells_behind first more marks told = record {
  ends = ap (end_of_kind first.kind) told.ends;
  raised = ap (λ (all : List Raised). raised_by first.kind ++ all) told.raised;
}

commit_tells : (marks : List Mark) (at : ℕ) (committed : Record) →
    TellsNothing (marks ++ record { at = at; kind = Commit committed } ∷ []) marks
commit_tells [] at committed = record { ends = refl; raised = refl }
commit_tells (mark ∷ marks) at committed =
    tells_behind mark _ marks (commit_tells marks at committed)

done_tells : (marks : List Mark) (at task : ℕ) →
    TellsNothing (marks ++ record { at = at; kind = Done task } ∷ []) marks
done_tells [] at task = record { ends = refl; raised = refl }
done_tells (mark ∷ marks) at task = tells_behind mark _ marks (done_tells marks at task)

abort_tells : (marks : List Mark) (at : ℕ) (aborted : AbortOf) →
    TellsNothing (marks ++ record { at = at; kind = Abort aborted } ∷ []) marks
abort_tells [] at aborted = record { ends = refl; raised = refl }
abort_tells (mark ∷ marks) at aborted = tells_behind mark _ marks (abort_tells marks at aborted)

boot_tells : (marks : List Mark) (at number : ℕ) →
    TellsNothing (marks ++ record { at = at; kind = Boot number } ∷ []) marks
boot_tells [] at number = record { ends = refl; raised = refl }
boot_tells (mark ∷ marks) at number = tells_behind mark _ marks (boot_tells marks at number)

-- what a step leaves beside: it ends no run, raises no posting, and finishes one more task at most
record LeavesBeside (old new : Device) : Type 0 where
  told : TellsNothing new.history.marks old.history.marks
  cursors : new.cursors ≡ old.cursors
  accepted : new.accepted ≡ old.accepted
  finished : new.finished ≤ old.finished + 1

tells_none : (marks : List Mark) → TellsNothing marks marks
tells_none marks = record { ends = refl; raised = refl }

module _ (old : Device) where
  without_mark : (image : Memory) (phase : Phase) (attempt : Kept) →
      LeavesBeside old (record old { image = image; phase = phase; attempt = attempt })
  without_mark image phase attempt =
      record {
        told = tells_none old.history.marks;
        cursors = refl;
        accepted = refl;
        finished =
            omega arith;
      }

  row_leaves : (program : Program) (code : Bodies) (new : Device) → IsRow program code old new →
      LeavesBeside old new
  row_leaves program code new (applies change image next written is) =
      rw is (without_mark image old.phase old.attempt)
  row_leaves program code new (undoes change image clear next written is) =
      rw is (without_mark image old.phase old.attempt)
  row_leaves program code new (sleeps chooses halted is) =
      rw is (without_mark old.image old.phase old.attempt)
  row_leaves program code new (empties image chooses some long written is) =
      rw is (without_mark image old.phase old.attempt)
  row_leaves program code new (unflags change image chooses some empty buffi next written is) =
      rw is (without_mark image old.phase old.attempt)
  row_leaves program code new (starts cpu chooses some empty unflagged start is) =
      rw is (without_mark old.image (Run cpu (steps_before_end program)) (emptied old.attempt))
  row_leaves program code new (runs before after left image turn phase body clear step is) =
      rw is (without_mark image (phase_after after left turn) (after_turn old.attempt turn))
  row_leaves program code new (prepares place image ends other written is) =
      rw is (without_mark image old.phase old.attempt)
  row_leaves program code new (joins place image ends ready inside written is) =
      rw is (record {
        told = done_tells old.history.marks _ _;
        cursors = refl;
        accepted =
            refl;
        finished = omega arith;
      })
  row_leaves program code new (commits place image ends ready whole written is) =
      rw is (record {
        told = commit_tells old.history.marks _ _;
        cursors = refl;
        accepted =
            refl;
        finished = omega arith;
      })
  row_leaves program code new (empties_entry image chooses some written is) =
      rw is (without_mark image old.phase old.attempt)
  row_leaves program code new (starts_bottom cpu chooses empty start is) =
      rw is (without_mark old.image (Run cpu (steps_before_end program)) (emptied old.attempt))
  row_leaves program code new
      (runs_bottom before after left image turn phase body clear events step is) =
      rw is (without_mark image (phase_of_bottom after left turn) (after_turn old.attempt turn))
  row_leaves program code new (prepares_event image ends other written is) =
      rw is (without_mark image old.phase old.attempt)
  row_leaves program code new (commits_event image ends ready written is) =
      rw is (record {
        told = commit_tells old.history.marks _ _;
        cursors = refl;
        accepted =
            refl;
        finished = omega arith;
      })
  row_leaves program code new (aborts word image draining conflict after is) =
      rw is (record {
        told = abort_tells old.history.marks _ _;
        cursors = refl;
        accepted = refl;
        finished = omega arith;
      })
  row_leaves program code new (prepares_drain image free other written is) =
      rw is (without_mark image old.phase old.attempt)
  row_leaves program code new (drains image free ready written is) =
      rw is (record {
        told = commit_tells old.history.marks _ _;
        cursors = refl;
        accepted = refl;
        finished = omega arith;
      })

time_leaves : (periods : List ℕ) (d : Device) (is_over : Bool) →
    LeavesBeside d (if is_over then cut periods d else passed d)
time_leaves periods d true =
    record {
      told = boot_tells d.history.marks _ _;
      cursors = refl;
      accepted = refl;
      finished =
          omega arith;
    }
time_leaves periods d false =
    record {
      told = tells_none d.history.marks;
      cursors = refl;
      accepted = refl;
      finished =
          omega arith;
    }

time_finishes_none : (periods : List ℕ) (d : Device) (is_over : Bool) →
    (if is_over then cut periods d else passed d).finished ≡ d.finished
time_finishes_none periods d true = refl
time_finishes_none periods d false = refl

step_leaves : (program : Program) (code : Bodies) (periods : List ℕ) (old new : Device) →
    IsStepOf program code periods old new → LeavesBeside old new
step_leaves program code periods old new step =
    let row = row_leaves old program code step.acted step.row in
    let counted = record step.acted { steps = step.acted.steps + 1 } in
    let time = time_leaves periods counted (step.acted.until == 1) in
    let finished : (ticked periods counted).finished ≡ step.acted.finished =
    time_finishes_none periods counted (step.acted.until == 1) in
    let most = row.finished in
    rw step.time (record {
      told = record {
        ends = time.told.ends ∙ row.told.ends;
        raised =
            time.told.raised ∙ row.told.raised;
      };
      cursors = time.cursors ∙ row.cursors;
      accepted = time.accepted ∙ row.accepted;
      finished = omega (arith, finished, most);
    })

-- what a board has after a step
pub record Steps (program : Program) (mode : Mode) (script : Script)
    (old new : Device) : Type 0 where
  pub board : IsBoard program mode script new
  pub open_still : end_of new.history.marks ≡ None
  pub clock : new.clock ≡ old.clock + 1
  pub steps : new.steps ≡ old.steps + 1
  pub spare : new.spare + 1 ≡ old.spare
  pub grows : AreRecordsGrown old new
  pub cursors : new.cursors ≡ old.cursors
  pub raised : raised_postings new.history.marks ≡ raised_postings old.history.marks

module _ (program : Program) (mode : Mode) (script : Script) (old new : Device)
    (board : IsBoard program mode script old)
    (spare : 0 < old.spare) (limit : old.steps < script.limit)
    (open_ : end_of old.history.marks ≡ None) where
  stepped : HasStepped (terms_of program mode) script.power (old.spare - 1) old new →
      IsPaced (terms_of program mode) new → LeavesBeside old new →
      Steps program mode script old new
  stepped has paced leaves =
      let clock = has.clock in
      let steps = has.steps in
      let left = has.spare in
      let had = board.steps in
      let finished = board.finished in
      let one_more = leaves.finished in
      let accepted = leaves.accepted in
      let counted = board.counted in
      let time = board.time in
      let few = has.room.few in record {
        board = record {
          accepted = board.accepted;
          sizes = board.sizes;
          scripted = board.scripted;
          sound = has.sound;
          paced = paced;
          cursors =
              subst (AreCursors script.postings new.history.marks) (sym leaves.cursors)
              (cursors_stay script.postings old.history.marks new.history.marks old.cursors
              leaves.told.raised board.cursors);
          steps = omega arith;
          counted = omega (arith, accepted, counted, clock);
          finished = omega arith;
          limit = omega arith;
          time = omega arith;
          few = omega arith;
          room = λ still. subst (λ (n : ℕ). HasRoomFor n script.power new) (sym left) has.room;
        };
        open_still = leaves.told.ends ∙ open_;
        clock = has.clock;
        steps = has.steps;
        spare = omega (arith, left, spare);
        grows = has.grows;
        cursors = leaves.cursors;
        raised = leaves.told.raised;
      }

  -- it is sound, and has no End mark yet
  pub step_keeps : StepsKeepSound → StepsKeepPace →
      IsStepOf program (program_code program) script.power old new →
      Steps program mode script old new
  step_keeps law paces step =
      let enough : suc (old.spare - 1) ≡ old.spare = omega arith in
      stepped
      (law (terms_of program mode) script.power (old.spare - 1) old new board.scripted.periods
      board.accepted board.sound
      (subst (λ (n : ℕ). HasRoomFor n script.power old) (sym enough) (board.room open_)) step)
      (paces (terms_of program mode) script.power old new board.accepted board.sizes board.sound
      board.paced step)
      (step_leaves program (program_code program) script.power old new step)
