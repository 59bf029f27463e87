-- The laws of pace. They know no device.
use Rattle.std.specs.Prelude.{ℕ, ◌≡◌, ◌≤◌, []}
use Rattle.task_syntax.specs.declared.program.Program.{Program}
use Rattle.serial_log.specs.Legal.{IsDoneWith}
use Rattle.serial_log.specs.Standing.{standing_of}
use Rattle.coati_pace.specs.Pace.{GoesOn, IsOnPace, Pace}

-- a run begins on pace
abbrev pub RunsBeginOnPace : Type 0
RunsBeginOnPace = (program : Program) (bound need : ℕ) → 1 ≤ bound → need ≤ bound →
    IsOnPace program bound (record { clock = 0; need = need; marks = [] })

-- and keeps it, where the history shows that nothing is left to do once nothing is needed
abbrev pub PacesGoOn : Type 0
PacesGoOn = (program : Program) (bound : ℕ) (old new : Pace) → 1 ≤ bound →
    IsOnPace program bound old → GoesOn bound old new →
    (new.need ≡ 0 → IsDoneWith (standing_of program new.marks)) → IsOnPace program bound new
