-- Units of tasks. A lone task is a unit. A transaction starts with its first task, goes on with
-- the member that each `next` names, and ends where one halts or names a task outside.
use Rattle.std.specs.Prelude.{ℕ, zero, suc, ◌+◌, ◌==◌, ◌≡◌, List, [], ◌∷◌, ◌++◌, length, replicate, slice_get, Bool, false, Option, Some, None, if◌then◌else◌, option_and_then}
use Rattle.std.specs.Option.{option_map_or}
use Rattle.coati_word.specs.declared.ending.Ending.{Ending}
use Rattle.coati_word.specs.declared.ending.Ending.TheVariants.{Next, Halt, Done, Given}
use Rattle.task_syntax.specs.declared.program.Program.{Program}
use Rattle.task_syntax.specs.declared.program.UnitDecl.{UnitDecl}
use Rattle.task_syntax.specs.declared.program.UnitDecl.TheVariants.{Lone, Tx}
use Rattle.task_syntax.specs.declared.program.TaskDecl.{TaskDecl}
use Rattle.task_syntax.specs.declared.statement.Stmt.{Stmt}
use Rattle.task_syntax.specs.Course.{Course, Store, Access, accesses, answer, after}
use Rattle.task_syntax.specs.Names.{tasks}
use Rattle.task_syntax.specs.Expressions.{no_locals}
use Rattle.task_syntax.specs.Statements.{body}

-- for each task of these units, by number, the number of its transaction, where the first
-- transaction has the number `tx`
abbrev pub memberships : ℕ → List UnitDecl → List (Option ℕ)
memberships tx [] = []
memberships tx (Lone task ∷ more) = None ∷ memberships tx more
memberships tx (Tx members ∷ more) = replicate (length members.tasks) (Some tx)
    ++ memberships (tx + 1) more

-- the transaction of a task; a lone task has none
abbrev pub transaction_of : Program → ℕ → Option ℕ
transaction_of program task = option_and_then (λ tx. tx)
    (slice_get (memberships 0 program.units) task)

-- the place of the first task of a transaction, where the first of these tasks has the number
-- `task`
abbrev pub first_from : ℕ → ℕ → List (Option ℕ) → Option ℕ
first_from tx task [] = None
first_from tx task (member ∷ more) = if option_map_or (λ x. x == tx) member false then Some task
    else first_from tx (task + 1) more

-- the place of the first task of a transaction
abbrev pub first_task : Program → ℕ → Option ℕ
first_task program tx = first_from tx 0 (memberships 0 program.units)

-- the place behind the last task of a run: no task runs there
abbrev pub halt : ℕ
halt = 65535

-- where an ending leads
abbrev pub place_after : Ending → ℕ
place_after (Next task) = task
place_after Halt = halt
place_after Done = halt
place_after (Given words) = halt

-- the body of a task; a task that isn't there has none
abbrev pub statements_of : Option TaskDecl → List Stmt
statements_of None = []
statements_of (Some task) = task.body

-- the course of a task
abbrev pub task_course : Program → ℕ → Course Ending
task_course program task = body program (statements_of (slice_get (tasks program) task)) no_locals

-- what tasks of a unit did, one after another, how each of them ended, and the place where the
-- last of them leads
pub record Reached : Type 0 where
  pub done : List Access
  pub endings : List Ending
  pub place : ℕ

-- a task's effect on a store
abbrev pub task_effect : Program → ℕ → Store → Reached
task_effect program task store =
    let course = task_course program task in
    record {
      done = accesses course store;
      endings = answer course store ∷ [];
      place = place_after (answer course store);
    }

-- both are members of one transaction
abbrev pub is_same : Option ℕ → Option ℕ → Bool
is_same None other = false
is_same (Some tx) other = option_map_or (λ x. x == tx) other false

-- the place is in the transaction of the task
abbrev pub is_inside : Program → ℕ → ℕ → Bool
is_inside program task place = is_same (transaction_of program task) (transaction_of program place)

-- one task more, which runs on what those before it left
abbrev pub followed_by : Reached → Reached → Reached
followed_by before task =
    record {
      done = before.done ++ task.done;
      endings = before.endings ++ task.endings;
      place = task.place;
    }

-- what tasks have reached, where the unit of the first of them has ended there
abbrev pub unless_inside : Program → ℕ → Reached → Option Reached
unless_inside program task reached = if is_inside program task reached.place then None
    else Some reached

module _ (program : Program) (task : ℕ) (store : Store) where
  -- the place is inside, so one task more runs
  abbrev pub one_more : Reached → Option Reached
  one_more before =
      if is_inside program task before.place
      then Some (followed_by before (task_effect program before.place (after before.done store)))
      else None

  -- a task and then so many more
  abbrev pub task_and_more : ℕ → Option Reached
  task_and_more zero = Some (task_effect program task store)
  task_and_more (suc more) = option_and_then one_more (task_and_more more)

  -- what the first `count` tasks of a unit do, the first being `task`; none where the unit has
  -- ended before
  abbrev pub tasks_effect : ℕ → Option Reached
  tasks_effect zero = None
  tasks_effect (suc more) = task_and_more more

  -- what a unit does, where it is whole after so many tasks
  abbrev pub whole_effect : ℕ → Option Reached
  whole_effect count = option_and_then (unless_inside program task) (tasks_effect count)

  -- the unit is whole after so many tasks
  pub record IsWhole (count : ℕ) : Type 0 where
    pub reached : Reached
    pub tasks : tasks_effect count ≡ Some reached
    pub ended : is_inside program task reached.place ≡ false
