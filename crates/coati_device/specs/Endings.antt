-- Where the ending of a task may lead.
use Rattle.std.specs.Prelude.{ℕ, ◌≡◌, ◌<◌, [], length}
use Rattle.task_syntax.specs.declared.program.Program.{Program}
use Rattle.task_syntax.specs.Names.{tasks}
use Rattle.task_syntax.specs.Units.{halt, transaction_of}
use Rattle.task_check.specs.Transitions.{into, midst_of_task}

-- behind the last task; or to a task that is in no transaction, or the first of one, or in the
-- task's own
pub data MayLead (program : Program) (task place : ℕ) : Type 0 where
  halts : place ≡ halt → MayLead program task place
  goes : place < length (tasks program) → into (transaction_of program task)
      (midst_of_task program place) 0 ≡ [] →
      MayLead program task place
