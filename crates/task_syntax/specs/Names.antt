-- What the names of a program stand for: its variable words, counted from 0 in the order of
-- declaration, and its tasks, counted from 0 in the order of the text, members of transactions
-- among them.
use Rattle.std.specs.Prelude.{ℕ, ◌+◌, ◌-◌, List, [], ◌∷◌, ◌++◌, length, flat_map, Option, Some, None, replicate, if◌then◌else◌}
use Rattle.std.specs.Option.{unwrap_or}
use Rattle.std.specs.Str.{bytes_eq}
use Rattle.task_syntax.specs.declared.program.Program.{Program}
use Rattle.task_syntax.specs.declared.program.Var.{Var}
use Rattle.task_syntax.specs.declared.program.Init.{Init}
use Rattle.task_syntax.specs.declared.program.Init.TheVariants as init
use Rattle.task_syntax.specs.declared.program.UnitDecl.{UnitDecl}
use Rattle.task_syntax.specs.declared.program.UnitDecl.TheVariants.{Lone, Tx}
use Rattle.task_syntax.specs.declared.program.TaskDecl.{TaskDecl}

-- a variable's words: its first, and how many an array has
pub record Words : Type 0 where
  pub first : ℕ
  pub length : Option ℕ

-- how many words a variable has
abbrev pub count_of : Option ℕ → ℕ
count_of length = unwrap_or length 1

-- how many words these variables have
abbrev pub word_count : List Var → ℕ
word_count [] = 0
word_count (var ∷ vars) = count_of var.length + word_count vars

-- the words of the variable of a name, where the first of these variables begins at `first`
abbrev pub words_from : ℕ → List Var → List ℕ → Option Words
words_from first [] name = None
words_from first (var ∷ vars) name =
    if bytes_eq var.name.text name
    then Some (record { first = first; length = var.length })
    else words_from (first + count_of var.length) vars name

-- the words of the variable of a name, where it is one
abbrev pub words_of : Program → List ℕ → Option Words
words_of program name = words_from 0 program.vars name

-- the values that are given for a variable
abbrev pub given_values : Init → List ℕ
given_values init.None = []
given_values (init.One value) = value ∷ []
given_values (init.Many values) = values

-- the values of a variable's words at first: those given, and 0 behind them
abbrev pub first_values : Var → List ℕ
first_values var = given_values var.init ++ replicate
    (count_of var.length - length (given_values var.init)) 0

-- the values of all variable words at first
abbrev pub opening_values : Program → List ℕ
opening_values program = flat_map first_values program.vars

-- the tasks of a unit
abbrev pub tasks_of_unit : UnitDecl → List TaskDecl
tasks_of_unit (Lone task) = task ∷ []
tasks_of_unit (Tx tx) = tx.tasks

-- the tasks by number
abbrev pub tasks : Program → List TaskDecl
tasks program = flat_map tasks_of_unit program.units

-- the number of the task of a name, where the first of these tasks has the number `first`
abbrev pub task_from : ℕ → List TaskDecl → List ℕ → Option ℕ
task_from first [] name = None
task_from first (task ∷ more) name = if bytes_eq task.name.text name then Some first
    else task_from (first + 1) more name

-- the number of the task of a name, where it is one
abbrev pub task_of : Program → List ℕ → Option ℕ
task_of program name = task_from 0 (tasks program) name
