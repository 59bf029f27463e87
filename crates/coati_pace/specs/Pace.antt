-- How a history keeps pace: where it is read mark by mark, with the clock and what is needed.
use Rattle.std.specs.Prelude.{ℕ, ◌+◌, ◌-◌, ◌≡◌, ◌<◌, ◌≤◌, List, [], ◌∷◌, ◌++◌, All, nat_lt, if◌then◌else◌}
use Rattle.task_syntax.specs.declared.program.Program.{Program}
use Rattle.serial_log.specs.declared.mark.Mark.{Mark}
use Rattle.serial_log.specs.declared.mark.MarkKind.{MarkKind}
use Rattle.serial_log.specs.declared.mark.MarkKind.TheVariants.{Boot, Posted, Done, Commit, Abort, End}
use Rattle.serial_log.specs.declared.posted.Posted.{Posted as Raised}
use Rattle.serial_log.specs.declared.posted.Answer.TheVariants.{Full}
use Rattle.serial_log.specs.declared.end.End.{End as Ending}
use Rattle.serial_log.specs.declared.unit.Unit.{Unit as Committed}
use Rattle.serial_log.specs.declared.unit.Unit.TheVariants.{Event}
use Rattle.serial_log.specs.Progresses.{EndsTask, EndsTasksInTime}
use Rattle.serial_log.specs.Walk.{walk}

abbrev pub counted_unit : Committed → (last at : ℕ) → ℕ
counted_unit (Event event) last at = last
counted_unit _ last at = at

-- the time of the last mark from which the need is counted: a boot, the end of a task, a posting
-- whose handler made a step
abbrev pub counted_by : (last at : ℕ) → MarkKind → ℕ
counted_by last at (Boot number) = at
counted_by last at (Posted posted) = if nat_lt posted.from at then at else last
counted_by last at (Done task) = at
counted_by last at (Commit committed) = counted_unit committed.unit last at
counted_by last at (Abort aborted) = last
counted_by last at (End ended) = last

abbrev pub last_counted : List Mark → ℕ
last_counted marks = walk (λ last mark. counted_by last mark.at mark.kind) 0 marks

-- a history so far, its clock, and the steps that are needed until the next task ends
pub record Pace : Type 0 where
  pub clock : ℕ
  pub need : ℕ
  pub marks : List Mark

-- the steps since that mark and those that are needed are within the bound
pub record IsOnPace (program : Program) (bound : ℕ) (p : Pace) : Type 0 where
  pub in_time : All (λ mark. mark.at ≤ p.clock) p.marks
  pub near : 0 < p.need → p.clock + p.need ≤ last_counted p.marks + bound
  pub ends : EndsTasksInTime program bound p.clock p.marks

abbrev pub IsOfEvent : Committed → Type 0
IsOfEvent (Event event) = Unit {0}
IsOfEvent _ = ⊥

-- an event is committed, or a unit is given up
abbrev pub IsOfEvents : MarkKind → Type 0
IsOfEvents (Commit committed) = IsOfEvent committed.unit
IsOfEvents (Abort aborted) = Unit {0}
IsOfEvents _ = ⊥

-- the marks with one more
abbrev pub marked : List Mark → (at : ℕ) → MarkKind → List Mark
marked marks at kind = marks ++ record { at = at; kind = kind } ∷ []

-- What happens to a history. A step behind which the power is cut is two acts: the step, and the
-- boot at the same clock.
pub data GoesOn (bound : ℕ) (old new : Pace) : Type 0 where
  -- a step without a mark, also of sleep
  steps : new.clock ≡ old.clock + 1 → new.need ≤ old.need - 1 → new.marks ≡ old.marks →
      GoesOn bound old new
  -- a step by which an event is committed, or a unit is given up
  serves : (kind : MarkKind) → IsOfEvents kind → new.clock ≡ old.clock + 1 →
      new.need ≤ old.need - 1 → new.marks ≡ marked old.marks (old.clock + 1) kind →
      GoesOn bound old new
  -- a step by which a task ends
  ends : (kind : MarkKind) → EndsTask kind → new.clock ≡ old.clock + 1 → new.need ≤ bound →
      new.marks ≡ marked old.marks (old.clock + 1) kind → GoesOn bound old new
  -- a boot
  boots : (number : ℕ) → new.clock ≡ old.clock → new.need ≤ bound →
      new.marks ≡ marked old.marks old.clock (Boot number) → GoesOn bound old new
  -- a posting is answered by its handler, or lost in it
  answers : (posted : Raised) → posted.from ≡ old.clock → old.clock < new.clock →
      new.need ≤ bound → new.marks ≡ marked old.marks new.clock (Posted posted) →
      GoesOn bound old new
  -- a posting is refused
  refuses : (posted : Raised) → posted.from ≡ old.clock → posted.answer ≡ Full →
      new.clock ≡ old.clock → new.need ≡ old.need →
      new.marks ≡ marked old.marks old.clock (Posted posted) → GoesOn bound old new
  -- the run is closed
  closes : (ended : Ending) → new.clock ≡ old.clock → new.need ≡ old.need →
      new.marks ≡ marked old.marks old.clock (End ended) → GoesOn bound old new
