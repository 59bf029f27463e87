-- A machine that runs is in the task to run, or in the bottom half of the oldest held posting.
use Rattle.std.proofs.Common.{◌≡◌, ℕ, List, ◌∷◌, sym, ap, subst, ◌∙◌, Some}
use Rattle.codegen.specs.Bodies.{program_code}
use Rattle.nv_memory.specs.Ring.{held_entries}
use Rattle.nv_memory.specs.State.{state}
use Rattle.serial_log.specs.declared.held.Held.{Held}
use Rattle.serial_log.specs.Postings.{due_posting}
use Rattle.serial_log.specs.Standing.{standing_of}
use Rattle.task_syntax.specs.declared.body.BodyId.{BodyId}
use Rattle.task_syntax.specs.declared.body.BodyId.TheVariants.{Bottom, Task, Top}
use Rattle.task_syntax.specs.declared.program.Program.{Program}
use Rattle.word_cpu.specs.declared.cpu.Cpu.{Cpu}
use Rattle.coati_device.specs.declared.device.Device.{Device}
use Rattle.coati_device.specs.declared.device.Phase.{Phase}
use Rattle.coati_device.specs.declared.device.Phase.TheVariants.{Run}
use Rattle.coati_device.specs.Attempt.{IsAttempt, IsInBottom, IsRunningIn}
use Rattle.coati_device.specs.Laws.{CanRunBody, CanRunOver, Fits}
use Rattle.coati_device.specs.BottomView.{bottom_view}
use Rattle.coati_device.specs.Points.{AreHeld}
use Rattle.coati_device.proofs.HeadEntry.{oldest_at_head}
use Rattle.coati_board.specs.Ready.{Runs, RunsIn, RunsTheBottomHalf}

due_is : (rest more : List Held) (first held : Held) → rest ≡ first ∷ more →
    due_posting rest ≡ Some held → first ≡ held
due_is rest more first held is due =
    let both : due_posting (first ∷ more) ≡ Some held =
    subst (λ (r : List Held). due_posting r ≡ Some held) is due in cc

module _ (program : Program) (d : Device) (cpu : Cpu) (left : ℕ) (rest : List Held)
    (running : d.phase ≡ Run cpu left)
    (held : AreHeld program (held_entries (state d.image)) rest) where
  runs_bottom_half :
      IsInBottom program (program_code program) d.image rest d.attempt.items cpu left →
      CanRunOver bottom_view program cpu d.image →
      RunsTheBottomHalf (program_code program) d
  runs_bottom_half here can =
      let head = oldest_at_head program (state d.image) rest here.at.clear.mark here.at.events.held
      held in
      let same = due_is rest head.more head.held here.at.held head.first here.at.due in record {
        cpu = cpu;
        left = left;
        phase = running;
        body = here.body ∙ ap (λ (one : Held). Bottom one.event) (sym same) ∙ ap Bottom
            (sym head.is.event);
        events = here.at.events;
        exists = can.body;
        few = can.few;
        ready = can.ready;
      }

  runs_in : (body : BodyId) →
      IsRunningIn program (program_code program) d.image rest d.attempt.items cpu left body →
      CanRunBody program d.image cpu body →
      RunsIn (program_code program) d body
  runs_in (Task task) here can =
      record {
        cpu = cpu;
        left = left;
        phase = running;
        body = here.body;
        exists = can.body;
        few =
            can.few;
        ready = can.ready;
      }
  runs_in (Top event) here can = absurd here
  runs_in (Bottom event) here can = runs_bottom_half here can

pub runs_of : (program : Program) (d : Device) (cpu : Cpu) (left : ℕ) → Fits program d →
    d.phase ≡ Run cpu left →
    CanRunBody program d.image cpu cpu.body →
    Runs (program_code program) d
runs_of program d cpu left fit running can =
    let rest = (standing_of program d.history.marks).rest in
    let here : IsRunningIn program (program_code program) d.image rest d.attempt.items cpu left
    cpu.body =
    subst (λ (phase : Phase). IsAttempt program (program_code program) d.image rest d.attempt.items
    phase) running fit.attempt in
    record {
      cpu = cpu;
      left = left;
      phase = running;
      can =
          runs_in program d cpu left rest running fit.stands.held cpu.body here can;
    }
