-- The rules of counts: of values and turns, of the buffer, of words, and of tasks, events and
-- transactions.
use Rattle.std.specs.Prelude.{ℕ, ◌+◌, Bool, true, false, ◌&&◌, nat_le, List, [], ◌∷◌, ◌++◌, length, map, flat_map, slice_get, Option, Some, None}
use Rattle.std.specs.List.{concat}
use Rattle.task_syntax.specs.declared.name.Name.{Name}
use Rattle.task_syntax.specs.declared.name.Number.{Number}
use Rattle.task_syntax.specs.declared.program.Program.{Program}
use Rattle.task_syntax.specs.declared.program.Var.{Var}
use Rattle.task_syntax.specs.declared.program.Init.{Init}
use Rattle.task_syntax.specs.declared.program.Init.TheVariants as init
use Rattle.task_syntax.specs.declared.program.Event.{Event}
use Rattle.task_syntax.specs.declared.program.TaskDecl.{TaskDecl}
use Rattle.task_syntax.specs.declared.program.TxDecl.{TxDecl}
use Rattle.task_syntax.specs.declared.program.UnitDecl.{UnitDecl}
use Rattle.task_syntax.specs.declared.program.UnitDecl.TheVariants.{Lone, Tx}
use Rattle.task_syntax.specs.declared.statement.Stmt.{Stmt}
use Rattle.task_syntax.specs.declared.statement.Stmt.TheOpen.{Stmt-F}
use Rattle.task_syntax.specs.declared.statement.Stmt.TheFolds.{fold-Stmt}
use Rattle.task_syntax.specs.Names.{count_of, tasks}
use Rattle.task_check.specs.Blocks.{in_other}
use Rattle.task_check.specs.Bodies.{BodyRead, bodies}
use Rattle.task_check.specs.Least.{unless}

-- the number lies between two others, or is one of them
abbrev pub is_between : ℕ → ℕ → ℕ → Bool
is_between least greatest number = nat_le least number && nat_le number greatest

-- an array has 1 to 256 words
abbrev pub length_fits : Option ℕ → Bool
length_fits None = true
length_fits (Some length) = is_between 1 256 length

-- a scalar has one value, an array a list that is no longer than itself
abbrev pub init_fits : Option ℕ → Init → Bool
init_fits length init.None = true
init_fits None (init.One value) = true
init_fits None (init.Many values) = false
init_fits (Some length) (init.One value) = false
init_fits (Some count) (init.Many values) = nat_le (length values) count

-- the place of a variable whose length or values don't fit
abbrev pub bad_var : Var → List ℕ
bad_var var = unless (length_fits var.length && init_fits var.length var.init) var.name.at

-- one layer of a statement; a loop has 1 to 50,000 turns
abbrev pub bad_loops_step : Stmt-F (List ℕ) → List ℕ
bad_loops_step (Stmt-F.Let name e) = []
bad_loops_step (Stmt-F.Assign place e) = []
bad_loops_step (Stmt-F.If condition block other) = concat block ++ in_other other
bad_loops_step (Stmt-F.Repeat name count block) = unless (is_between 1 50000 count) name.at
    ++ concat block
bad_loops_step (Stmt-F.Next name) = []
bad_loops_step (Stmt-F.Halt at) = []
bad_loops_step (Stmt-F.Give es at) = []

-- the places of loops whose count doesn't fit
abbrev pub bad_loops : Stmt → List ℕ
bad_loops = fold-Stmt (List ℕ) bad_loops_step

-- those among statements
abbrev pub bad_loops_among : List Stmt → List ℕ
bad_loops_among block = concat (map bad_loops block)

-- those in a body
abbrev pub bad_turns : BodyRead → List ℕ
bad_turns body = bad_loops_among body.statements

-- rule 4
abbrev pub bad_count_places : Program → List ℕ
bad_count_places program = flat_map bad_var program.vars ++ flat_map bad_turns (bodies program)

-- a buffer that is declared holds 1 to 32 postings
abbrev pub bad_buffer : Option Number → List ℕ
bad_buffer None = []
bad_buffer (Some number) = unless (is_between 1 32 number.value) number.at

-- rule 5
abbrev pub bad_buffer_places : Program → List ℕ
bad_buffer_places program = bad_buffer program.buffer

-- the variables with which there are more than 256 words, where so many stand before them
abbrev pub words_above : ℕ → List Var → List ℕ
words_above before [] = []
words_above before (var ∷ vars) = unless (nat_le (before + count_of var.length) 256) var.name.at
    ++ words_above (before + count_of var.length) vars

-- rule 6
abbrev pub too_many_words_places : Program → List ℕ
too_many_words_places program = words_above 0 program.vars

-- the transaction of a unit, where it is one
abbrev pub transactions_of_unit : UnitDecl → List TxDecl
transactions_of_unit (Lone task) = []
transactions_of_unit (Tx tx) = tx ∷ []

-- the transactions by number
abbrev pub transactions : Program → List TxDecl
transactions program = flat_map transactions_of_unit program.units

-- the place of what is there
abbrev pub place_of : {X : Type 0} → (X → Name) → Option X → List ℕ
place_of name None = []
place_of name (Some x) = (name x).at ∷ []

-- rule 7: the 65th task, the 17th event and the 17th transaction
abbrev pub too_many_tasks_places : Program → List ℕ
too_many_tasks_places program =
    place_of (λ (task : TaskDecl). task.name) (slice_get (tasks program) 64)
    ++ place_of (λ (event : Event). event.name) (slice_get program.events 16)
    ++ place_of (λ (tx : TxDecl). tx.name) (slice_get (transactions program) 16)
