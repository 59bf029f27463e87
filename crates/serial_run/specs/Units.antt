-- How far a run of a unit's tasks has come.
use Rattle.std.specs.Prelude.{ℕ, ◌≡◌, Option, Some, None}
use Rattle.task_syntax.specs.declared.program.Program.{Program}
use Rattle.task_syntax.specs.Units.{Reached, tasks_effect}
use Rattle.serial_run.specs.Moments.{Moment, behind_all}

-- so many tasks lead from a moment to another one, and to a place
pub record TasksLead (program : Program) (task : ℕ) (m : Moment) (count : ℕ) (n : Moment)
    (place : ℕ) : Type 0 where
  pub reached : Reached
  pub tasks_done : tasks_effect program task m.store count ≡ Some reached
  pub moment : n ≡ behind_all reached.done m
  pub place_is : place ≡ reached.place

-- what is found of so many tasks: where they lead, or that they aren't there
abbrev pub Finds : Program → ℕ → Moment → ℕ → Moment → Option ℕ → Type 0
Finds program task m count n None = tasks_effect program task m.store count ≡ None
Finds program task m count n (Some place) = TasksLead program task m count n place
