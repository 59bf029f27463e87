-- How soon a run goes on, and how tasks and events take turns.
use Rattle.std.specs.Prelude.{ℕ, ◌+◌, ◌≡◌, ◌<◌, ◌≤◌, ◌⊎◌, List, [], All, Contains, filter, nat_le, Option, Some, None}
use Rattle.std.specs.List.{Any}
use Rattle.coati_word.specs.declared.mode.Mode.{Mode}
use Rattle.coati_word.specs.declared.mode.Mode.TheVariants.{Split, Buffi}
use Rattle.task_syntax.specs.declared.program.Program.{Program}
use Rattle.serial_log.specs.declared.mark.Mark.{Mark}
use Rattle.serial_log.specs.declared.mark.MarkKind.{MarkKind}
use Rattle.serial_log.specs.declared.mark.MarkKind.TheVariants.{Posted, Done, Commit, Abort}
use Rattle.serial_log.specs.declared.unit.Unit.{Unit as Committed}
use Rattle.serial_log.specs.declared.unit.Unit.TheVariants.{Event}
use Rattle.serial_log.specs.Marks.{boot_times}
use Rattle.serial_log.specs.Walk.{walk, Each}
use Rattle.serial_log.specs.Standing.{Standing, opening, after_mark, standing_of, EachMark}
use Rattle.serial_log.specs.Legal.{IsDoneWith}

-- the unit is one of tasks
abbrev pub IsOfTasks : Committed → Type 0
IsOfTasks (Event event) = ⊥
IsOfTasks _ = Unit {0}

-- a task is done, or a task or transaction is committed
abbrev pub EndsTask : MarkKind → Type 0
EndsTask (Done task) = Unit {0}
EndsTask (Commit committed) = IsOfTasks committed.unit
EndsTask _ = ⊥

-- a machine step, told by the clock after it, is one of a handler that answers with this mark
abbrev pub IsStepOfHandler : ℕ → ℕ → MarkKind → Type 0
IsStepOfHandler step at (Posted posted) = (posted.from < step) × (step ≤ at)
IsStepOfHandler step at _ = ⊥

-- no boot comes between two times, and no machine step of a handler
pub record IsLeftAlone (from to : ℕ) (marks : List Mark) : Type 0 where
  pub no_boot : (at : ℕ) → Contains (boot_times marks) at → from < at → at < to → ⊥
  pub no_handler : (step : ℕ) → Any (λ mark. IsStepOfHandler step mark.at mark.kind) marks →
      from < step → step ≤ to → ⊥

-- a mark behind one time and up to another that ends a task
pub record ComesFurther (from to : ℕ) (mark : Mark) : Type 0 where
  pub behind : from < mark.at
  pub up_to : mark.at ≤ to
  pub ends : EndsTask mark.kind

-- what a history stood for at a time, with the marks of that time
abbrev pub standing_at : Program → List Mark → ℕ → Standing
standing_at program marks time = standing_of program (filter (λ mark. nat_le mark.at time) marks)

-- Where a run is left alone for `bound` machine steps, a task ends in them, or nothing is left to
-- do behind them.
abbrev pub EndsTasksInTime : Program → ℕ → ℕ → List Mark → Type 0
EndsTasksInTime program bound clock marks =
    (time : ℕ) → time + bound ≤ clock → IsLeftAlone time (time + bound) marks →
    Any (ComesFurther time (time + bound)) marks
    ⊎ IsDoneWith (standing_at program marks (time + bound))

-- the posting whose event has to come first, where a unit was given up for it
abbrev pub awaited_by : Option ℕ → MarkKind → Option ℕ
awaited_by awaited (Done task) = None
awaited_by awaited (Commit committed) = None
awaited_by awaited (Abort aborted) = Some aborted.posting
awaited_by awaited _ = awaited

abbrev pub IsServedFirst : Option ℕ → MarkKind → Type 0
IsServedFirst (Some posting) (Done task) = ⊥
IsServedFirst (Some posting) (Commit committed) = committed.posting ≡ posting
IsServedFirst (Some posting) (Abort aborted) = ⊥
IsServedFirst _ _ = Unit {0}

abbrev pub awaited_of : List Mark → Option ℕ
awaited_of marks = walk (λ awaited mark. awaited_by awaited mark.kind) None marks

-- Behind an abort, the first to be done, committed or given up is the event of its posting, which
-- is committed.
abbrev pub ServesAborts : List Mark → Type 0
ServesAborts marks = Each (λ awaited mark. awaited_by awaited mark.kind)
    (λ awaited mark. IsServedFirst awaited mark.kind) None marks

-- what a history stands for so far, and how many postings were accepted when the last task or
-- transaction was committed
pub record Settled : Type 0 where
  pub standing : Standing
  pub settled : ℕ

abbrev pub settled_by_unit : Committed → Settled → ℕ
settled_by_unit (Event event) s = s.settled
settled_by_unit _ s = s.standing.accepted

abbrev pub settled_by : MarkKind → Settled → ℕ
settled_by (Commit committed) s = settled_by_unit committed.unit s
settled_by _ s = s.settled

abbrev pub none_settled : Program → Settled
none_settled program = record { standing = opening program; settled = 0 }

abbrev pub settled_after : Program → Settled → Mark → Settled
settled_after program s mark = record {
  standing = after_mark program s.standing mark;
  settled = settled_by mark.kind s;
}

abbrev pub settled_of : Program → List Mark → Settled
settled_of program marks = walk (settled_after program) (none_settled program) marks

-- where a task ends, each posting that is left came after the last commit of a task or transaction
abbrev pub ServesSettled : Settled → Mark → Type 0
ServesSettled s mark = EndsTask mark.kind → All (λ held. s.settled < held.number) s.standing.rest

-- In `split`, a posting that was accepted before the commit of a task or transaction is served
-- before the next task ends.
abbrev pub ServesBetweenUnits : Program → List Mark → Type 0
ServesBetweenUnits program marks = Each (settled_after program) ServesSettled
    (none_settled program) marks

-- where a task ends, no posting is left
abbrev pub ServesAll : Standing → Mark → Type 0
ServesAll s mark = EndsTask mark.kind → s.rest ≡ []

-- In `buffi`, no posting is left where a task ends.
abbrev pub ServesAtOnce : Program → List Mark → Type 0
ServesAtOnce program marks = EachMark program ServesAll marks

-- a history that progresses, up to a clock
pub record Progresses (program : Program) (mode : Mode) (bound clock : ℕ) (marks : List Mark)
    : Type 0 where
  pub in_time : EndsTasksInTime program bound clock marks
  pub aborts : ServesAborts marks
  pub split : mode ≡ Split → ServesBetweenUnits program marks
  pub buffi : mode ≡ Buffi → ServesAtOnce program marks
