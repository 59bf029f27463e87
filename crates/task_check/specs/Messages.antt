-- Messages that are short: each `give` has at most four words.
use Rattle.std.specs.Prelude.{Bool, true, IsTrue, ◌&&◌, nat_le, List, [], ◌∷◌, All, map, length, Option, Some, None}
use Rattle.task_syntax.specs.declared.program.Program.{Program}
use Rattle.task_syntax.specs.declared.program.Event.{Event}
use Rattle.task_syntax.specs.declared.program.TaskDecl.{TaskDecl}
use Rattle.task_syntax.specs.declared.statement.Stmt.{Stmt}
use Rattle.task_syntax.specs.declared.statement.Stmt.TheOpen.{Stmt-F}
use Rattle.task_syntax.specs.declared.statement.Stmt.TheFolds.{fold-Stmt}
use Rattle.task_syntax.specs.Names.{tasks}

-- all of these hold
abbrev pub all_hold : List Bool → Bool
all_hold [] = true
all_hold (first ∷ more) = first && all_hold more

-- all that is said of the block behind `else`, where there is one
abbrev pub other_holds : Option (List Bool) → Bool
other_holds None = true
other_holds (Some block) = all_hold block

-- one layer of a statement: a message has at most four words
abbrev pub statement_gives_step : Stmt-F Bool → Bool
statement_gives_step (Stmt-F.Let name e) = true
statement_gives_step (Stmt-F.Assign place e) = true
statement_gives_step (Stmt-F.If condition block other) = all_hold block && other_holds other
statement_gives_step (Stmt-F.Repeat name count block) = all_hold block
statement_gives_step (Stmt-F.Next name) = true
statement_gives_step (Stmt-F.Halt at) = true
statement_gives_step (Stmt-F.Give es at) = nat_le (length es) 4

-- the messages of a statement have no word too many
abbrev pub statement_gives : Stmt → Bool
statement_gives = fold-Stmt Bool statement_gives_step

-- nor have those of statements
abbrev pub statements_give : List Stmt → Bool
statements_give block = all_hold (map statement_gives block)

-- the messages of a program have no word too many
pub record HasShortMessages (program : Program) : Type 0 where
  pub in_tasks : All (λ (task : TaskDecl). IsTrue (statements_give task.body)) (tasks program)
  pub in_tops : All (λ (event : Event). IsTrue (statements_give event.top)) program.events
  pub in_bottoms : All (λ (event : Event). IsTrue (statements_give event.bottom)) program.events
