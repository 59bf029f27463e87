-- Transitions into transactions. From outside a transaction `next` leads to its first task alone.
use Rattle.std.specs.Prelude.{ℕ, ◌==◌, List, [], ◌∷◌, ◌++◌, map, flat_map, zip, Option, Some, None, option_and_then, if◌then◌else◌, false}
use Rattle.std.specs.List.{concat}
use Rattle.std.specs.Option.{option_map_or}
use Rattle.task_syntax.specs.declared.program.Program.{Program}
use Rattle.task_syntax.specs.declared.program.UnitDecl.{UnitDecl}
use Rattle.task_syntax.specs.declared.program.TaskDecl.{TaskDecl}
use Rattle.task_syntax.specs.declared.statement.Stmt.{Stmt}
use Rattle.task_syntax.specs.declared.statement.Stmt.TheOpen.{Stmt-F}
use Rattle.task_syntax.specs.declared.statement.Stmt.TheFolds.{fold-Stmt}
use Rattle.task_syntax.specs.Names.{tasks_of_unit, task_of}
use Rattle.task_syntax.specs.Units.{memberships, transaction_of, first_task, is_same}
use Rattle.task_check.specs.Blocks.{in_other}

module _ (program : Program) where
  -- the transaction, unless the task is its first
  abbrev pub unless_first : ℕ → ℕ → Option ℕ
  unless_first task tx = if option_map_or (λ first. first == task) (first_task program tx) false
      then None else Some tx

  -- the transaction of a task that is a member of one, and not its first
  abbrev pub midst_of_task : ℕ → Option ℕ
  midst_of_task task = option_and_then (unless_first task) (transaction_of program task)

  -- the transaction of the task of a name, where that is a member of one, and not its first
  abbrev pub midst_of : List ℕ → Option ℕ
  midst_of name = option_and_then midst_of_task (task_of program name)

-- the place, where it leads into the midst of a transaction from outside
abbrev pub into : Option ℕ → Option ℕ → ℕ → List ℕ
into own None at = []
into own (Some tx) at = if is_same own (Some tx) then [] else at ∷ []

module _ (program : Program) (own : Option ℕ) where
  -- one layer of a statement in a task of this transaction, or in a lone task
  abbrev pub into_step : Stmt-F (List ℕ) → List ℕ
  into_step (Stmt-F.Let name e) = []
  into_step (Stmt-F.Assign place e) = []
  into_step (Stmt-F.If condition block other) = concat block ++ in_other other
  into_step (Stmt-F.Repeat name count block) = concat block
  into_step (Stmt-F.Next name) = into own (midst_of program name.text) name.at
  into_step (Stmt-F.Halt at) = []
  into_step (Stmt-F.Give es at) = []

  -- the named tasks in a statement that lead into the midst of a transaction from outside
  abbrev pub enters_in : Stmt → List ℕ
  enters_in = fold-Stmt (List ℕ) into_step

  -- the same of a block
  abbrev pub enters_in_block : List Stmt → List ℕ
  enters_in_block block = concat (map enters_in block)

-- the same of a task, beside its transaction, where it is a member of one
abbrev pub enters_in_member : Program → (Option ℕ × TaskDecl) → List ℕ
enters_in_member program member = enters_in_block program member.0 member.1.body

-- each task of these units beside its transaction, where it is a member of one and `tx`
-- transactions stand before
abbrev pub members : ℕ → List UnitDecl → List (Option ℕ × TaskDecl)
members tx units = zip (memberships tx units) (flat_map tasks_of_unit units)

-- rule 10: where `next` leads from outside to a member that isn't the first of its transaction
abbrev pub into_tx_places : Program → List ℕ
into_tx_places program = flat_map (enters_in_member program) (members 0 program.units)
