-- The laws of a device's pace.
use Rattle.std.specs.Prelude.{ℕ, ◌≡◌, ◌≤◌, ◌↔◌, List}
use Rattle.task_syntax.specs.declared.program.Program.{Program}
use Rattle.task_check.specs.Accepted.{IsAccepted}
use Rattle.task_check.specs.Sizes.{HasSizes}
use Rattle.task_cost.specs.Limits.{period_bound}
use Rattle.serial_log.specs.declared.end.End.{End}
use Rattle.serial_log.specs.declared.posted.Answer.{Answer}
use Rattle.serial_log.specs.declared.script.Posting.{Posting}
use Rattle.serial_log.specs.Postings.{Terms}
use Rattle.serial_log.specs.Progresses.{EndsTasksInTime}
use Rattle.serial_log.specs.Standing.{standing_of}
use Rattle.nv_memory.specs.StandsFor.{IsIdle}
use Rattle.nv_memory.specs.State.{state}
use Rattle.codegen.specs.Bodies.{program_code}
use Rattle.coati_device.specs.declared.device.Device.{Device}
use Rattle.coati_device.specs.Laws.{ArePeriods, Fits, IsFresh, Rows}
use Rattle.coati_device.specs.Points.{IsSound}
use Rattle.coati_device.specs.Raises.{Raises}
use Rattle.coati_device.specs.Rows.{IsStepOf}
use Rattle.coati_device.specs.Ticks.{cut, passed}
use Rattle.coati_pace.specs.Effort.{IsEffort, shape_of}
use Rattle.coati_pace.specs.Need.{need}
use Rattle.coati_pace.specs.Running.{IsAct, StandsFor}
use Rattle.device_pace.specs.Effort.{effort_of}
use Rattle.device_pace.specs.Running.{IsPaced, closed_by, running_of}

-- each part of what there is to do is in its range
abbrev pub DevicesAreInRange : Type 0
DevicesAreInRange =
    (program : Program) (d : Device) → Fits program d →
    IsEffort (shape_of program) (effort_of d)

-- where a device is halted or holds nothing, its history shows so
abbrev pub DevicesStandForTheirHistory : Type 0
DevicesStandForTheirHistory =
    (program : Program) (d : Device) → Fits program d →
    StandsFor (effort_of d) (standing_of program d.history.marks)

-- each row with its time is an act
abbrev pub RowsAreActs : Type 0
RowsAreActs =
    (terms : Terms) (periods : List ℕ) (old new : Device) → IsAccepted terms.program →
    HasSizes terms.program → IsSound terms (program_code terms.program) periods old →
    Rows terms.program old new →
    IsAct (shape_of terms.program) terms.mode (running_of old) (running_of (passed new))

-- where the power is cut behind it, the boot is another one
abbrev pub CutsAreActs : Type 0
CutsAreActs =
    (terms : Terms) (periods : List ℕ) (d : Device) → Fits terms.program d →
    IsAct (shape_of terms.program) terms.mode (running_of (passed d)) (running_of (cut periods d))

-- each step leaves a device paced
abbrev pub StepsKeepPace : Type 0
StepsKeepPace =
    (terms : Terms) (periods : List ℕ) (old new : Device) → IsAccepted terms.program →
    HasSizes terms.program → IsSound terms (program_code terms.program) periods old →
    IsPaced terms old →
    IsStepOf terms.program (program_code terms.program) periods old new → IsPaced terms new

-- so does each raised posting, where the device fits its history behind it
abbrev pub RaisesKeepPace : Type 0
RaisesKeepPace =
    (terms : Terms) (periods : List ℕ) (postings : List Posting) (device : ℕ) (old new : Device)
    (answer : Answer) →
    Fits terms.program new → IsPaced terms old →
    Raises terms.program (program_code terms.program) periods postings device old new answer →
    IsPaced terms new

-- and the end of a run
abbrev pub ClosingKeepsPace : Type 0
ClosingKeepsPace =
    (terms : Terms) (end : End) (d : Device) → Fits terms.program d → IsPaced terms d →
    IsPaced terms (closed_by end d)

-- a device before its first step is paced
abbrev pub FreshDevicesArePaced : Type 0
FreshDevicesArePaced =
    (terms : Terms) (periods : List ℕ) (d : Device) → ArePeriods periods →
    HasSizes terms.program → IsFresh terms.program terms.mode periods d → IsPaced terms d

-- where a device is left alone for a power period that suffices, a task ends in it, or nothing is
-- left to do behind it
abbrev pub PacedDevicesEndTasks : Type 0
PacedDevicesEndTasks =
    (terms : Terms) (d : Device) → IsPaced terms d →
    EndsTasksInTime terms.program (period_bound terms.program) d.clock d.history.marks

-- what a device needs is at most such a period, and nothing exactly where it is idle
pub record NeedsFew (terms : Terms) (d : Device) : Type 0 where
  pub most : need (shape_of terms.program) terms.mode (effort_of d) ≤ period_bound terms.program
  pub idle : (need (shape_of terms.program) terms.mode (effort_of d) ≡ 0)
      ↔ IsIdle (state d.image)

abbrev pub DevicesNeedFew : Type 0
DevicesNeedFew =
    (terms : Terms) (d : Device) → IsAccepted terms.program → HasSizes terms.program →
    Fits terms.program d → NeedsFew terms d
