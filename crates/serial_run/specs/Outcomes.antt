-- What the outcome of a run tells of what was done.
use Rattle.std.specs.Prelude.{ℕ, ◌≡◌, ◌==◌, List, length, slice_index, Option, Some, None, if◌then◌else◌}
use Rattle.coati_word.specs.declared.ending.Ending.{Ending}
use Rattle.coati_word.specs.declared.ending.Ending.TheVariants.{Next, Halt}
use Rattle.task_syntax.specs.Course.{Course, Access, accesses, after, answer, readings}
use Rattle.task_syntax.specs.Units.{Reached, halt}
use Rattle.serial_run.specs.declared.outcome.Outcome.{Outcome}
use Rattle.serial_run.specs.declared.outcome.TxRun.{TxRun}
use Rattle.serial_run.specs.declared.outcome.TxRun.TheVariants.{Whole, Other}

-- accesses, with an ending, lead from the one store to the other, and their readings are told
pub record Tells (before : List ℕ) (done : List Access) (ending : Ending) (store : List ℕ)
    (outcome : Outcome) : Type 0 where
  pub store_after : slice_index store ≡ after done (slice_index before)
  pub words : length store ≡ length before
  pub readings_told : outcome.readings ≡ readings done
  pub ending_told : outcome.ending ≡ ending

-- a course is told that has run from these words
abbrev pub TellsCourse : List ℕ → Course Ending → List ℕ → Outcome → Type 0
TellsCourse before course store outcome =
    Tells before (accesses course (slice_index before)) (answer course (slice_index before))
    store outcome

-- how a unit ends that leads to a place
abbrev pub ending_at : ℕ → Ending
ending_at place = if place == halt then Halt else Next place

-- where the unit is whole its outcome is told, and nowhere else
abbrev pub TellsUnit : List ℕ → Option Reached → TxRun → Type 0
TellsUnit before None Other = Unit {0}
TellsUnit before None (Whole store outcome) = ⊥
TellsUnit before (Some reached) Other = ⊥
TellsUnit before (Some reached) (Whole store outcome) =
    Tells before reached.done (ending_at reached.place) store outcome
