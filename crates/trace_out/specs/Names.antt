-- How tasks, transactions, events and variable words are named.
use Rattle.std.specs.Prelude.{ℕ, zero, suc, ◌-◌, List, [], ◌∷◌, ◌++◌, Option, Some, None, if◌then◌else◌}
use Rattle.std.specs.Prelude.{codes, decimal, nat_le, slice_get}
use Rattle.std.specs.Option.{option_map_or}
use Rattle.task_check.specs.Counts.{transactions}
use Rattle.task_syntax.specs.declared.program.Event.{Event}
use Rattle.task_syntax.specs.declared.program.Program.{Program}
use Rattle.task_syntax.specs.declared.program.TaskDecl.{TaskDecl}
use Rattle.task_syntax.specs.declared.program.TxDecl.{TxDecl}
use Rattle.task_syntax.specs.declared.program.Var.{Var}
use Rattle.task_syntax.specs.Names.{count_of, tasks}

abbrev pub name_of_task : TaskDecl → List ℕ
name_of_task task = task.name.text

-- by number
abbrev pub task_name : Program → ℕ → List ℕ
task_name program number = option_map_or name_of_task (slice_get (tasks program) number) []

abbrev pub name_of_transaction : TxDecl → List ℕ
name_of_transaction tx = tx.name.text

abbrev pub transaction_name : Program → ℕ → List ℕ
transaction_name program number =
    option_map_or name_of_transaction (slice_get (transactions program) number) []

abbrev pub event_name : Program → ℕ → List ℕ
event_name program number =
    option_map_or (λ (event : Event). event.name.text) (slice_get program.events number) []

-- which of its variable's words a word is: a scalar has one alone
abbrev pub index_text : Option ℕ → ℕ → List ℕ
index_text None index = []
index_text (Some length) index = codes "[" ++ decimal index ++ codes "]"

-- a word of these variables, counted from the first word of the first of them
abbrev pub word_text : List Var → ℕ → List ℕ
word_text [] word = []
word_text (var ∷ more) word =
    if nat_le (count_of var.length) word
    then word_text more (word - count_of var.length)
    else var.name.text ++ index_text var.length word

-- so many words of a variable, the first of which has this index
abbrev pub texts_from : (index count : ℕ) → Var → List (List ℕ)
texts_from index zero var = []
texts_from index (suc count) var =
    (var.name.text ++ index_text var.length index) ∷ texts_from (suc index) count var

-- all words of a variable
abbrev pub texts_of_words : Var → List (List ℕ)
texts_of_words var = texts_from 0 (count_of var.length) var
