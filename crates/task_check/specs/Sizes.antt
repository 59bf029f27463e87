-- The sizes of a program within the limits.
use Rattle.std.specs.Prelude.{◌<◌, ◌≤◌, All, length}
use Rattle.task_syntax.specs.declared.program.Program.{Program}
use Rattle.task_syntax.specs.declared.program.Var.{Var}
use Rattle.task_syntax.specs.declared.program.UnitDecl.{UnitDecl}
use Rattle.task_syntax.specs.Names.{count_of, given_values, tasks, tasks_of_unit, word_count}
use Rattle.task_syntax.specs.ProgramLaws.{HasNoEmptyArray}
use Rattle.task_check.specs.Counts.{transactions}
use Rattle.task_check.specs.Numbers.{buffer_size}

-- a variable is given no more values than it has words
abbrev pub GivenFits : Var → Type 0
GivenFits var = length (given_values var.init) ≤ count_of var.length

-- 1 to 256 words, a buffer of 1 to 32, 1 to 64 tasks, and at most 16 events and 16 transactions
pub record HasSizes (program : Program) : Type 0 where
  pub words_least : 0 < word_count program.vars
  pub words_most : word_count program.vars ≤ 256
  pub buffer_least : 0 < buffer_size program
  pub buffer_most : buffer_size program ≤ 32
  pub tasks_least : 0 < length (tasks program)
  pub tasks_most : length (tasks program) ≤ 64
  pub events_most : length program.events ≤ 16
  pub transactions_most : length (transactions program) ≤ 16
  pub arrays : HasNoEmptyArray program
  pub given : All GivenFits program.vars
  pub members : All (λ (unit : UnitDecl). 0 < length (tasks_of_unit unit)) program.units
