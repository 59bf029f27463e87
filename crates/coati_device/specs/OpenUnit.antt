-- The open unit: a transaction some of whose tasks are finished. Its log and the readings kept for
-- it are what these tasks did from the committed words on, and the task to run is the one behind
-- them. While a task is merged, its part counts already.
use Rattle.std.specs.Prelude.{ℕ, ◌≡◌, ◌==◌, ◌<◌, ◌⊎◌, List, [], length, Bool, true, false, ◌||◌, None, Some, if◌then◌else◌}
use Rattle.coati_word.specs.declared.reading.Reading.{Reading}
use Rattle.task_syntax.specs.declared.program.Program.{Program}
use Rattle.task_syntax.specs.Course.{readings}
use Rattle.task_syntax.specs.Names.{tasks}
use Rattle.task_syntax.specs.Units.{Reached, halt, is_inside, tasks_effect}
use Rattle.task_syntax.specs.Written.{is_shared, last_written}
use Rattle.task_check.specs.Transitions.{midst_of_task}
use Rattle.serial_log.specs.SerialRun.{Stand}
use Rattle.nv_memory.specs.State.{State}
use Rattle.nv_memory.specs.Words.{doomed, mark, mode, opened}
use Rattle.commit_log.specs.OpenUnit.{unit_flag, unit_log, unit_next}

-- a unit is open: a transaction is, or its first task is merged; a commit takes it, and so does an
-- undo
abbrev pub has_unit : State → Bool
has_unit s =
    if mark s == 2 then false
    else (if doomed s == 1 then false else (mark s == 1 || opened s == 1))

-- so many tasks of the unit at the stand's place are finished, and the unit goes on inside its
-- transaction
pub record HasFinished (program : Program) (s : State) (stand : Stand) (read : List Reading)
    (finished : ℕ) : Type 0 where
  pub reached : Reached
  pub tasks : tasks_effect program stand.place stand.store finished ≡ Some reached
  pub log : (word : ℕ) → unit_log s word ≡ last_written reached.done word
  pub flags : mode s ≡ 1 → (word : ℕ) → word < s.n →
      unit_flag s word ≡ is_shared reached.done word
  pub next : unit_next s ≡ reached.place
  pub inside : is_inside program stand.place reached.place ≡ true
  pub reads : read ≡ readings reached.done

-- no task is finished
pub record HasNoneFinished (read : List Reading) (finished : ℕ) : Type 0 where
  pub none : finished ≡ 0
  pub nothing : read ≡ []

abbrev pub UnitFits : Program → State → Stand → List Reading → ℕ → Bool → Type 0
UnitFits program s stand read finished true = HasFinished program s stand read finished
UnitFits program s stand read finished false = HasNoneFinished read finished

-- what the finished tasks did is in the transaction log and in the kept readings
abbrev pub OpenUnitFits : Program → State → Stand → List Reading → ℕ → Type 0
OpenUnitFits program s stand read finished = UnitFits program s stand read finished (has_unit s)

-- a unit may begin at the place: behind the last task none does, else a lone task or the first of
-- a transaction
abbrev pub IsUnitPlace : Program → ℕ → Type 0
IsUnitPlace program place = (place ≡ halt) ⊎ ((place < length (tasks program))
    × (midst_of_task program place ≡ None))
