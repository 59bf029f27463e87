-- The laws of the need.
use Rattle.std.specs.Prelude.{◌<◌, ◌≤◌, ◌≡◌, ◌↔◌}
use Rattle.coati_word.specs.declared.mode.Mode.{Mode}
use Rattle.task_syntax.specs.declared.program.Program.{Program}
use Rattle.task_check.specs.Accepted.{IsAccepted}
use Rattle.task_check.specs.Sizes.{HasSizes}
use Rattle.task_cost.specs.Limits.{period_bound}
use Rattle.coati_pace.specs.declared.effort.Shape.{Shape}
use Rattle.coati_pace.specs.declared.effort.Effort.{Effort}
use Rattle.coati_pace.specs.Effort.{IsEffort, IsShape, bound, shape_of}
use Rattle.coati_pace.specs.Need.{need}
use Rattle.coati_pace.specs.Acts.{IsIdle, IsRestart, IsStep}

-- each step lowers it
abbrev pub StepsLower : Type 0
StepsLower = (s : Shape) (mode : Mode) (old new : Effort) → IsStep s mode old new →
    need s mode new < need s mode old

-- it is at most the bound, and 0 exactly where nothing is to do
pub record IsBounded (s : Shape) (mode : Mode) (e : Effort) : Type 0 where
  pub most : need s mode e ≤ bound s
  pub idle : (need s mode e ≡ 0) ↔ IsIdle e

abbrev pub EffortsAreBounded : Type 0
EffortsAreBounded = (s : Shape) (mode : Mode) (e : Effort) → IsEffort s e → IsBounded s mode e

-- what is done keeps each part in its range
pub record KeepsRanges (s : Shape) (mode : Mode) (old new : Effort) : Type 0 where
  pub step : IsStep s mode old new → IsEffort s new
  pub restart : IsRestart s mode old new → IsEffort s new

abbrev pub ActsKeepRanges : Type 0
ActsKeepRanges = (s : Shape) (mode : Mode) (old new : Effort) → IsEffort s old →
    KeepsRanges s mode old new

-- behind a progress, a boot or a posting the bound suffices again
abbrev pub RestartsAreBounded : Type 0
RestartsAreBounded = (s : Shape) (mode : Mode) (old new : Effort) → IsEffort s old →
    IsRestart s mode old new → need s mode new ≤ bound s

-- the bound of a program's device is its power period that suffices
abbrev pub BoundsArePeriods : Type 0
BoundsArePeriods = (program : Program) → bound (shape_of program) ≡ period_bound program

-- the device of an accepted program is within the limits
abbrev pub ShapesAreWithinLimits : Type 0
ShapesAreWithinLimits = (program : Program) → IsAccepted program → HasSizes program →
    IsShape (shape_of program)
