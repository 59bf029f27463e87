-- The names of an accepted program are names, each its own.
use Rattle.std.proofs.Common.{◌≡◌, ℕ, ◌<◌, List, [], ◌∷◌, ◌++◌, map, refl, sym, ap, subst, arith}
use Rattle.std.specs.Prelude.{flat_map}
use Rattle.std.proofs.lemmas.List.{append-nil, map-append}
use Rattle.std.proofs.lemmas.List.Elements.{recursion_from_All}
use Rattle.task_check.specs.Accepted.{IsAccepted}
use Rattle.task_check.specs.Counts.{transactions, transactions_of_unit}
use Rattle.task_check.specs.Mentions.{Mention, Part, bodies_part, chain, event_part, globals_part, in_turn, mentions, task_part, unit_part, var_part}
use Rattle.task_check.specs.WellFormed.{IsWellFormed}
use Rattle.task_check.proofs.SizesHold.{sizes}
use Rattle.task_lex.specs.Token.{Spells}
use Rattle.task_lex.specs.declared.token.TokenKind.TheVariants as kind
use Rattle.task_syntax.specs.declared.program.Program.{Program}
use Rattle.task_syntax.specs.declared.program.TaskDecl.{TaskDecl}
use Rattle.task_syntax.specs.declared.program.UnitDecl.{UnitDecl}
use Rattle.task_syntax.specs.declared.program.UnitDecl.TheVariants.{Lone, Tx}
use Rattle.task_syntax.specs.declared.program.Var.{Var}
use Rattle.task_syntax.specs.Names.{count_of, tasks, tasks_of_unit}
use Rattle.trace_out.specs.Names.{name_of_task, name_of_transaction}
use Rattle.trace_out.proofs.Declared.{Among, IsSound, Tells, all-front, among-all, among-joined, among-nothing, chain-tells, declares-tells, in_turn-tells, kept, mentions-sound, names-among, passed}
use Rattle.trace_out.proofs.Places.{name_of_event}
use Rattle.trace_out.proofs.UnitReads.{IsNamed}
use Rattle.trace_out.proofs.WordPlaces.{name_of_var}

-- a list of one name for each item
ones : {X : Type 0} (text : X → List ℕ) (items : List X) → flat_map (λ x. text x ∷ []) items
    ≡ map text items
ones text [] = refl
ones text (x ∷ more) = ap (λ names. text x ∷ names) (ones text more)

-- the names of a unit: a task's, or a transaction's and those of its tasks
abbrev names_of_unit : UnitDecl → List (List ℕ)
names_of_unit (Lone task) = name_of_task task ∷ []
names_of_unit (Tx tx) = name_of_transaction tx ∷ map name_of_task tx.tasks

tasks-tell : (among : List TaskDecl) → Tells (in_turn (map task_part among))
    (map name_of_task among)
tasks-tell among = subst (Tells (in_turn (map task_part among))) (ones name_of_task among)
    (in_turn-tells task_part (λ task. name_of_task task ∷ []) among
    (λ task. declares-tells _ task.name))

unit-tells : (unit : UnitDecl) → Tells (unit_part unit) (names_of_unit unit)
unit-tells (Lone task) = declares-tells _ task.name
unit-tells (Tx tx) = chain-tells _ (in_turn (map task_part tx.tasks))
    (name_of_transaction tx ∷ []) (map name_of_task tx.tasks) (declares-tells _ tx.name)
    (tasks-tell tx.tasks)

-- all global names
abbrev global_names : Program → List (List ℕ)
global_names program = map name_of_var program.vars ++ (map name_of_event program.events
    ++ flat_map names_of_unit program.units)

globals-tell : (program : Program) → Tells (globals_part program) (global_names program)
unfolding globals_part
globals-tell program =
    let vars : Part = in_turn (map var_part program.vars) in
    let events : Part = in_turn (map event_part program.events) in
    let units : Part = in_turn (map unit_part program.units) in
    let one : Tells vars (map name_of_var program.vars) =
    subst (Tells vars) (ones name_of_var program.vars)
    (in_turn-tells var_part (λ var. name_of_var var ∷ []) program.vars
    (λ var. declares-tells _ var.name)) in
    let two : Tells events (map name_of_event program.events) =
    subst (Tells events) (ones name_of_event program.events)
    (in_turn-tells event_part (λ event. name_of_event event ∷ []) program.events
    (λ event. declares-tells _ event.name)) in
    let three : Tells units (flat_map names_of_unit program.units) =
    in_turn-tells unit_part names_of_unit program.units unit-tells in
    chain-tells vars (chain events units) (map name_of_var program.vars)
    (map name_of_event program.events ++ flat_map names_of_unit program.units) one
    (chain-tells events units (map name_of_event program.events)
    (flat_map names_of_unit program.units) two three)

-- the tasks' names among those of the units
tasks-among : (units : List UnitDecl) → Among (map name_of_task (flat_map tasks_of_unit units))
    (flat_map names_of_unit units)
tasks-among [] = among-nothing []
tasks-among (unit ∷ more) =
    subst (λ (some : List (List ℕ)). Among some (flat_map names_of_unit (unit ∷ more)))
    (sym (map-append name_of_task (tasks_of_unit unit) (flat_map tasks_of_unit more)))
    (among-joined (map name_of_task (tasks_of_unit unit)) (names_of_unit unit)
    (map name_of_task (flat_map tasks_of_unit more)) (flat_map names_of_unit more)
    (of_one unit) (tasks-among more)) where
      of_one : (unit : UnitDecl) → Among (map name_of_task (tasks_of_unit unit))
          (names_of_unit unit)
      of_one (Lone task) = among-all (name_of_task task ∷ [])
      of_one (Tx tx) = passed (name_of_transaction tx) (map name_of_task tx.tasks)
          (map name_of_task tx.tasks) (among-all (map name_of_task tx.tasks))

transactions-among : (units : List UnitDecl)
    → Among (map name_of_transaction (flat_map transactions_of_unit units))
    (flat_map names_of_unit units)
transactions-among [] = among-nothing []
transactions-among (unit ∷ more) =
    subst (λ (some : List (List ℕ)). Among some (flat_map names_of_unit (unit ∷ more)))
    (sym (map-append name_of_transaction (transactions_of_unit unit)
    (flat_map transactions_of_unit more)))
    (among-joined (map name_of_transaction (transactions_of_unit unit)) (names_of_unit unit)
    (map name_of_transaction (flat_map transactions_of_unit more))
    (flat_map names_of_unit more) (of_one unit) (transactions-among more)) where
      of_one : (unit : UnitDecl) → Among (map name_of_transaction (transactions_of_unit unit))
          (names_of_unit unit)
      of_one (Lone task) = among-nothing (name_of_task task ∷ [])
      of_one (Tx tx) = kept (name_of_transaction tx) [] (map name_of_task tx.tasks)
          (among-nothing (map name_of_task tx.tasks))

pub names-accepted : (program : Program) → IsAccepted program → IsWellFormed program
    → IsNamed program
names-accepted program accepted formed =
    let fit = sizes program accepted formed in
    let globals = (globals_part program []).mentions in
    let rest = (bodies_part program (globals_part program []).scope).mentions in
    let sound = mentions-sound (mentions program) (accepted 1 (omega arith) (omega arith))
    (recursion_from_All (λ (m : Mention). Spells kind.Name m.name.text)
    (mentions program) formed.names) in
    let names = ((globals-tell program).names_are [] (all-front IsSound globals rest sound)).0 in
    let vars = map name_of_var program.vars in
    let events = map name_of_event program.events in
    let units = flat_map names_of_unit program.units in
    let of_units = names-among units (global_names program)
    (among-joined [] vars units (events ++ units) (among-nothing vars)
    (among-joined [] events units units (among-nothing events) (among-all units))) names in
    record {
      tasks = names-among (map name_of_task (tasks program)) units
          (tasks-among program.units) of_units;
      transactions = names-among (map name_of_transaction (transactions program)) units
          (transactions-among program.units) of_units;
      events = names-among events (global_names program)
          (among-joined [] vars events (events ++ units) (among-nothing vars)
          (subst (λ (some : List (List ℕ)). Among some (events ++ units)) (append-nil events)
          (among-joined events events [] units (among-all events)
          (among-nothing units)))) names;
      vars = names-among vars (global_names program)
          (subst (λ (some : List (List ℕ)). Among some (global_names program)) (append-nil vars)
          (among-joined vars vars [] (events ++ units) (among-all vars)
          (among-nothing (events ++ units)))) names;
      words = record {
        full = recursion_from_All
            (λ (var : Var). 0 < count_of var.length) program.vars fit.arrays;
        few = fit.words_most;
      };
    }
