-- A device at work, as the pace sees it: what it is about, its clock and its marks.
use Rattle.std.specs.Prelude.{ℕ, ◌+◌, ◌≡◌, ◌<◌, List, []}
use Rattle.coati_word.specs.declared.mode.Mode.{Mode}
use Rattle.task_syntax.specs.declared.program.Program.{Program}
use Rattle.task_syntax.specs.Units.{halt}
use Rattle.serial_log.specs.declared.mark.Mark.{Mark}
use Rattle.serial_log.specs.declared.mark.MarkKind.{MarkKind}
use Rattle.serial_log.specs.declared.mark.MarkKind.TheVariants.{Boot, Posted, End}
use Rattle.serial_log.specs.declared.posted.Posted.{Posted as Raised}
use Rattle.serial_log.specs.declared.posted.Answer.TheVariants.{Full}
use Rattle.serial_log.specs.declared.end.End.{End as Ending}
use Rattle.serial_log.specs.Progresses.{EndsTask}
use Rattle.serial_log.specs.Standing.{Standing, standing_of}
use Rattle.coati_pace.specs.declared.effort.Shape.{Shape}
use Rattle.coati_pace.specs.declared.effort.Place.TheVariants.{Halted}
use Rattle.coati_pace.specs.declared.effort.Effort.{Effort}
use Rattle.coati_pace.specs.Effort.{IsEffort, bound}
use Rattle.coati_pace.specs.Need.{need}
use Rattle.coati_pace.specs.Acts.{IsIdle, IsRestart, IsStep}
use Rattle.coati_pace.specs.Pace.{IsOfEvents, IsOnPace, Pace, marked}

pub record Running : Type 0 where
  pub effort : Effort
  pub clock : ℕ
  pub marks : List Mark

abbrev pub pace_of : Shape → Mode → Running → Pace
pace_of s mode r = record { clock = r.clock; need = need s mode r.effort; marks = r.marks }

-- What it does. A step behind which the power is cut is two acts: the step, and the boot at the
-- same clock.
pub data IsAct (s : Shape) (mode : Mode) (old new : Running) : Type 0 where
  -- a step without a mark
  steps : IsStep s mode old.effort new.effort → new.clock ≡ old.clock + 1 →
      new.marks ≡ old.marks → IsAct s mode old new
  sleeps : IsIdle old.effort → new.effort ≡ old.effort → new.clock ≡ old.clock + 1 →
      new.marks ≡ old.marks → IsAct s mode old new
  -- an event is committed, or a unit is given up
  serves : (kind : MarkKind) → IsOfEvents kind → IsStep s mode old.effort new.effort →
      new.clock ≡ old.clock + 1 → new.marks ≡ marked old.marks (old.clock + 1) kind →
      IsAct s mode old new
  -- a task ends
  progresses : (kind : MarkKind) → EndsTask kind → IsRestart s mode old.effort new.effort →
      new.clock ≡ old.clock + 1 → new.marks ≡ marked old.marks (old.clock + 1) kind →
      IsAct s mode old new
  boots : (number : ℕ) → IsRestart s mode old.effort new.effort → new.clock ≡ old.clock →
      new.marks ≡ marked old.marks old.clock (Boot number) → IsAct s mode old new
  -- a posting is answered by its handler, or lost in it
  answers : (posted : Raised) → posted.from ≡ old.clock → old.clock < new.clock →
      IsRestart s mode old.effort new.effort →
      new.marks ≡ marked old.marks new.clock (Posted posted) → IsAct s mode old new
  -- a posting is refused
  refuses : (posted : Raised) → posted.from ≡ old.clock → posted.answer ≡ Full →
      new.effort ≡ old.effort → new.clock ≡ old.clock →
      new.marks ≡ marked old.marks old.clock (Posted posted) → IsAct s mode old new
  -- the run is closed
  closes : (ended : Ending) → new.effort ≡ old.effort → new.clock ≡ old.clock →
      new.marks ≡ marked old.marks old.clock (End ended) → IsAct s mode old new

-- where it is halted or holds nothing, the history shows so
pub record StandsFor (e : Effort) (standing : Standing) : Type 0 where
  pub place : e.place ≡ Halted → standing.run.place ≡ halt
  pub held : e.held ≡ 0 → standing.rest ≡ []

-- it is in range and on pace
pub record KeepsPace (program : Program) (s : Shape) (mode : Mode) (r : Running) : Type 0 where
  pub ranges : IsEffort s r.effort
  pub pace : IsOnPace program (bound s) (pace_of s mode r)

-- each act keeps that
abbrev pub ActsKeepPace : Type 0
ActsKeepPace = (program : Program) (s : Shape) (mode : Mode) (old new : Running) →
    KeepsPace program s mode old → IsAct s mode old new →
    StandsFor new.effort (standing_of program new.marks) → KeepsPace program s mode new
