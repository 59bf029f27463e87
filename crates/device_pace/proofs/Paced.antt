-- A device is paced before its first step, and what a paced one comes to.
use Rattle.std.proofs.Common.{◌≡◌, ◌≤◌, ℕ, subst, arith, List, []}
use Rattle.task_syntax.specs.declared.program.Program.{Program}
use Rattle.task_check.specs.Accepted.{IsAccepted}
use Rattle.task_check.specs.Sizes.{HasSizes}
use Rattle.task_cost.specs.Limits.{period_bound}
use Rattle.serial_log.specs.declared.mark.Mark.{Mark}
use Rattle.serial_log.specs.Postings.{Terms}
use Rattle.serial_log.specs.Progresses.{EndsTasksInTime}
use Rattle.coati_device.specs.declared.device.Device.{Device}
use Rattle.coati_device.specs.Laws.{ArePeriods, Fits, FreshDevicesAreSound, IsFresh}
use Rattle.coati_pace.specs.Effort.{bound, shape_of}
use Rattle.coati_pace.specs.Laws.{BoundsArePeriods}
use Rattle.coati_pace.specs.Need.{need}
use Rattle.coati_pace.specs.Pace.{IsOnPace}
use Rattle.coati_pace.specs.PaceLaws.{RunsBeginOnPace}
use Rattle.coati_pace.proofs.Bounds.{bounded}
use Rattle.device_pace.specs.Effort.{effort_of}
use Rattle.device_pace.specs.Laws.{NeedsFew}
use Rattle.device_pace.specs.Running.{IsPaced}
use Rattle.device_pace.proofs.Idle.{idle_by_memory, idle_in_memory}
use Rattle.device_pace.proofs.Ranges.{in_range}

begins_at : RunsBeginOnPace → (program : Program) (bound need clock : ℕ) (marks : List Mark) →
    1 ≤ bound → need ≤ bound → clock ≡ 0 → marks ≡ [] →
    IsOnPace program bound (record { clock = clock; need = need; marks = marks })
begins_at begins program bound need clock marks some few zero none =
    rw (zero, none) (begins program bound need some few)

pub fresh_paced : RunsBeginOnPace → FreshDevicesAreSound → (terms : Terms) (periods : List ℕ)
    (d : Device) → ArePeriods periods → HasSizes terms.program →
    IsFresh terms.program terms.mode periods d → IsPaced terms d
fresh_paced begins sound terms periods d some sizes fresh =
    let shape = shape_of terms.program in
    let ranges = in_range terms.program d (sound terms periods d some sizes fresh).fit in
    record {
      ranges = ranges;
      pace = begins_at begins terms.program (bound shape)
          (need shape terms.mode (effort_of d)) d.clock d.history.marks (omega arith)
          (bounded shape terms.mode (effort_of d) ranges).most fresh.clock fresh.marks;
    }

pub paced_ends : BoundsArePeriods → (terms : Terms) (d : Device) → IsPaced terms d →
    EndsTasksInTime terms.program (period_bound terms.program) d.clock d.history.marks
paced_ends same terms d paced =
    subst (λ (bound : ℕ). EndsTasksInTime terms.program bound d.clock d.history.marks)
    (same terms.program) paced.pace.ends

pub needs_few : BoundsArePeriods → (terms : Terms) (d : Device) → IsAccepted terms.program →
    HasSizes terms.program → Fits terms.program d → NeedsFew terms d
needs_few same terms d rules sizes fits =
    let program = terms.program in
    let few = sizes.tasks_most in
    let b = bounded (shape_of program) terms.mode (effort_of d) (in_range program d fits) in
    record {
      most = subst (λ (bound : ℕ). need (shape_of program) terms.mode (effort_of d) ≤ bound)
          (same program) b.most;
      idle = (
        λ none. idle_in_memory program d rules few fits (b.idle.0 none),
        λ idle. b.idle.1 (idle_by_memory program d rules few fits idle),
      );
    }
