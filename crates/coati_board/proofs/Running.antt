-- A step of the machine in the task to run.
use Rattle.std.proofs.Common.{◌≡◌, ℕ, refl, sym, ap, subst, ◌∙◌}
use Rattle.nv_memory.specs.Seats.{Memory}
use Rattle.nv_memory.specs.State.{state}
use Rattle.task_syntax.specs.declared.program.Program.{Program}
use Rattle.word_code.specs.Code.{Bodies}
use Rattle.word_cpu.specs.declared.cpu.Cpu.{Cpu}
use Rattle.word_cpu.specs.declared.turn.Turn.{Turn}
use Rattle.word_cpu.specs.Meaning.{Meaning, Shows}
use Rattle.word_cpu.specs.Turning.{IsStep}
use Rattle.word_cpu.proofs.Shown.{shown_step}
use Rattle.coati_device.specs.declared.device.Device.{Device}
use Rattle.coati_device.specs.declared.device.Phase.{Phase}
use Rattle.coati_device.specs.declared.device.Phase.TheVariants.{Run}
use Rattle.coati_device.specs.Kept.{Kept, after_turn}
use Rattle.coati_device.specs.Rows.{IsClear, IsRow, phase_after}
use Rattle.coati_device.specs.Rows.IsRow.{runs}
use Rattle.coati_device.specs.TaskView.{task_view}
use Rattle.coati_board.specs.declared.task_view.TaskView.{TaskView}
use Rattle.coati_board.specs.Ready.{RunsTheTask}

-- what a task's view of an image means
abbrev view_meaning : Meaning TaskView
view_meaning = record {
  words = λ v. task_view.words v.image.now;
  begun = λ v word value part. task_view.begun v.image.now word value part;
  loaded =
      λ old word new. (new.image.ghost_name ≡ old.image.ghost_name) × task_view.loaded
      old.image.now
      word new.image.now;
  stored = λ old word value part new is_last.
      (new.image.ghost_name ≡ old.image.ghost_name) × task_view.stored old.image.now word value
      part
      new.image.now is_last;
}

-- it shows the image's memory
view_shows : Shows view_meaning task_view (λ (view : TaskView). view.image.now)
view_shows = record {
  words = λ view. refl;
  begun = λ view word value part. (λ is. is, λ is. is);
  loaded = λ old new word is. is.1;
  stored = λ old new word value part is_last is. is.1;
}

pub run_is : (a b : Cpu) (left other : ℕ) → Run a left ≡ Run b other → a ≡ b
run_is a b left other e = cc

-- a step on the view is the row of the machine
pub runs_row : (program : Program) (code : Bodies) (d : Device) (before after : Cpu) (left : ℕ)
    (old new : TaskView) (turn seen : Turn) (phase : Phase) (attempt : Kept) →
    IsStep view_meaning code before after old new turn → old.image.now ≡ d.image →
    d.phase ≡ Run before left → RunsTheTask code d →
    IsClear (state d.image) → turn ≡ seen → phase ≡ phase_after after left seen →
    attempt ≡ after_turn d.attempt seen →
    IsRow program code d (record d { image = new.image.now; phase = phase; attempt = attempt })
runs_row program code d before after left old new turn seen phase attempt step image_is phase_is
    can clear turn_is phase_after_is attempt_is =
    let same : can.cpu ≡ before =
    run_is can.cpu before can.left left (sym can.phase ∙ phase_is) in
    runs before after left new.image.now seen phase_is (ap (λ (cpu : Cpu). cpu.body) (sym same)
    ∙ can.body) clear
    (subst (λ (m : Memory). IsStep task_view code before after m new.image.now seen) image_is
    (subst (λ (t : Turn). IsStep task_view code before after old.image.now new.image.now t) turn_is
    (shown_step view_meaning task_view (λ (view : TaskView). view.image.now) view_shows before
    after
    old new code turn step)))
    (rw (phase_after_is, attempt_is) refl)
