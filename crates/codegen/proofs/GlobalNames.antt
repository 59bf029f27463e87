-- The global names of a program: variables and tasks are found by their names, and none of them is a local.
use Rattle.std.proofs.Common.{◌≡◌, ℕ, ◌+◌, List, [], ◌∷◌, ◌++◌, map, refl, sym, subst}
use Rattle.std.specs.Prelude.{Bool, true, false, ◌||◌, Option, Some, None, is_some, if◌then◌else◌}
use Rattle.std.specs.List.{AllByRecursion}
use Rattle.std.specs.Str.{bytes_eq}
use Rattle.std.proofs.lemmas.Bool.{or_left, true≢false}
use Rattle.std.proofs.lemmas.Slice.Eq.{bytes_eq-Decides}
use Rattle.task_syntax.specs.declared.name.Name.{Name}
use Rattle.task_syntax.specs.declared.program.Program.{Program}
use Rattle.task_syntax.specs.declared.program.Event.{Event}
use Rattle.task_syntax.specs.declared.program.Var.{Var}
use Rattle.task_syntax.specs.declared.program.TaskDecl.{TaskDecl}
use Rattle.task_syntax.specs.declared.program.UnitDecl.{UnitDecl}
use Rattle.task_syntax.specs.declared.program.UnitDecl.TheVariants.{Lone, Tx}
use Rattle.task_syntax.specs.Names.{Words, count_of, words_of, words_from, task_of, task_from, tasks, tasks_of_unit}
use Rattle.task_check.specs.Scope.{Scope, meaning_of}
use Rattle.task_check.specs.Mentions as rules
use Rattle.codegen.proofs.Agreement.{same_text}
use Rattle.codegen.proofs.Parted.{all-parts, all-turned}
use Rattle.codegen.proofs.ScopedNames.{Tells, tells-joined, AreKnown, unfit, fine-lone}

is_some-first : {A : Type 0} (here : Bool) (first : A) (later : Option A) → here ≡ true → is_some (if here then Some first else later) ≡ true
is_some-first here first later is = rw is refl

is_some-later : {A : Type 0} (here : Bool) (first : A) (later : Option A) → is_some later ≡ true → is_some (if here then Some first else later) ≡ true
is_some-later true first later is = refl
is_some-later false first later is = is

-- each variable has its words, and each task its number
variables-found : (first : ℕ) (vars : List Var) → AllByRecursion (λ (var : Var). is_some (words_from first vars var.name.text) ≡ true) vars
variables-found first [] = tt
variables-found first (var ∷ vars) =
    let behind = first + count_of var.length in
    let here : Words = record { first = first; length = var.length } in (
      is_some-first (bytes_eq var.name.text var.name.text) here (words_from behind vars var.name.text) (same_text var.name.text),
      all-turned (λ (other : Var). is_some (words_from behind vars other.name.text) ≡ true) (λ (other : Var). is_some (words_from first (var ∷ vars) other.name.text) ≡ true)
          (λ other found. is_some-later (bytes_eq var.name.text other.name.text) here (words_from behind vars other.name.text) found) vars (variables-found behind vars),
    )

tasks-found : (first : ℕ) (tasks : List TaskDecl) → AllByRecursion (λ (task : TaskDecl). is_some (task_from first tasks task.name.text) ≡ true) tasks
tasks-found first [] = tt
tasks-found first (task ∷ more) = (
  is_some-first (bytes_eq task.name.text task.name.text) first (task_from (first + 1) more task.name.text) (same_text task.name.text),
  all-turned (λ (other : TaskDecl). is_some (task_from (first + 1) more other.name.text) ≡ true) (λ (other : TaskDecl). is_some (task_from first (task ∷ more) other.name.text) ≡ true)
      (λ other found. is_some-later (bytes_eq task.name.text other.name.text) first (task_from (first + 1) more other.name.text) found) more (tasks-found (first + 1) more),
)

module _ (program : Program) where
  -- where the names in scope are told, those behind a part are
  abbrev Keeps : rules.Part → Type 0
  Keeps part = (scope : Scope) → Tells program scope [] → Tells program (part scope).scope []

  -- the kinds of names are the checker's own: which one a name is, is left to be found where it is declared
  declared-keeps : (kind : _) (name : Name) → Tells program (rules.declares kind name []).scope [] → Keeps (rules.declares kind name)
  declared-keeps kind name told scope tells =
      elim (is_some (meaning_of scope name.text)) as (λ (known : Bool). Tells program (if known then scope else scope ++ (name.text, kind) ∷ []) []) [
        | true ↦ tells
        | false ↦ tells-joined program scope ((name.text, kind) ∷ []) [] tells told
      ]

  chain-keeps : (first second : rules.Part) → Keeps first → Keeps second → Keeps (rules.chain first second)
  chain-keeps first second one other scope tells = other (first scope).scope (one scope tells)

  each-keeps : {X : Type 0} (part : X → rules.Part) (xs : List X) → AllByRecursion (λ x. Keeps (part x)) xs → Keeps (rules.in_turn (map part xs))
  each-keeps part [] each = λ scope tells. tells
  each-keeps part (x ∷ xs) each = chain-keeps (part x) (rules.in_turn (map part xs)) each.0 (each-keeps part xs each.1)

  -- what holds of a name holds of the same name elsewhere
  module _ (Fact : List ℕ → Type 0) (name other : Name) where
    of_same : Fact name.text → bytes_eq other.text name.text ≡ true → Fact other.text
    of_same fact same = subst Fact (sym ((bytes_eq-Decides other.text name.text).0 same)) fact

  abbrev IsVariable : List ℕ → Type 0
  IsVariable text = is_some (words_of program text) ≡ true

  abbrev IsTask : List ℕ → Type 0
  IsTask text = is_some (task_of program text) ≡ true

  variable-tells : (name : Name) (length : Option ℕ) → IsVariable name.text → Tells program (rules.declares (rules.var_meaning length) name []).scope []
  variable-tells name None is = record {
    plain = λ other fine. fine-lone _ ((is_some (words_of program other.text) || false) ≡ true) _ (bytes_eq other.text name.text) refl
        (λ here f. or_left (is_some (words_of program other.text)) false (of_same IsVariable name other is here)) (λ f. unfit f.fitting) fine.0;
    item = λ other fine. fine-lone _ (IsVariable other.text) _ (bytes_eq other.text name.text) refl
        (λ here f. unfit f.fitting) (λ f. unfit f.fitting) fine.0;
    next = λ other fine. fine-lone _ (IsTask other.text) _ (bytes_eq other.text name.text) refl
        (λ here f. unfit f.fitting) (λ f. unfit f.fitting) fine.0;
  }
  variable-tells name (Some length) is = record {
    plain = λ other fine. fine-lone _ ((is_some (words_of program other.text) || false) ≡ true) _ (bytes_eq other.text name.text) refl
        (λ here f. unfit f.fitting) (λ f. unfit f.fitting) fine.0;
    item = λ other fine. fine-lone _ (IsVariable other.text) _ (bytes_eq other.text name.text) refl
        (λ here f. of_same IsVariable name other is here) (λ f. unfit f.fitting) fine.0;
    next = λ other fine. fine-lone _ (IsTask other.text) _ (bytes_eq other.text name.text) refl
        (λ here f. unfit f.fitting) (λ f. unfit f.fitting) fine.0;
  }

  event-tells : (event : Event) → Tells program (rules.event_part event []).scope []
  event-tells event = record {
    plain = λ other fine. fine-lone _ ((is_some (words_of program other.text) || false) ≡ true) _ (bytes_eq other.text event.name.text) refl
        (λ here f. unfit f.fitting) (λ f. unfit f.fitting) fine.0;
    item = λ other fine. fine-lone _ (IsVariable other.text) _ (bytes_eq other.text event.name.text) refl
        (λ here f. unfit f.fitting) (λ f. unfit f.fitting) fine.0;
    next = λ other fine. fine-lone _ (IsTask other.text) _ (bytes_eq other.text event.name.text) refl
        (λ here f. unfit f.fitting) (λ f. unfit f.fitting) fine.0;
  }

  task-tells : (task : TaskDecl) → IsTask task.name.text → Tells program (rules.task_part task []).scope []
  task-tells task is = record {
    plain = λ other fine. fine-lone _ ((is_some (words_of program other.text) || false) ≡ true) _ (bytes_eq other.text task.name.text) refl
        (λ here f. unfit f.fitting) (λ f. unfit f.fitting) fine.0;
    item = λ other fine. fine-lone _ (IsVariable other.text) _ (bytes_eq other.text task.name.text) refl
        (λ here f. unfit f.fitting) (λ f. unfit f.fitting) fine.0;
    next = λ other fine. fine-lone _ (IsTask other.text) _ (bytes_eq other.text task.name.text) refl
        (λ here f. of_same IsTask task.name other is here) (λ f. unfit f.fitting) fine.0;
  }

  -- a transaction's name, without its tasks
  transaction-tells : (name : Name) → Tells program (rules.unit_part (Tx (record { name = name; tasks = [] })) []).scope []
  transaction-tells name = record {
    plain = λ other fine. fine-lone _ ((is_some (words_of program other.text) || false) ≡ true) _ (bytes_eq other.text name.text) refl
        (λ here f. unfit f.fitting) (λ f. unfit f.fitting) fine.0;
    item = λ other fine. fine-lone _ (IsVariable other.text) _ (bytes_eq other.text name.text) refl
        (λ here f. unfit f.fitting) (λ f. unfit f.fitting) fine.0;
    next = λ other fine. fine-lone _ (IsTask other.text) _ (bytes_eq other.text name.text) refl
        (λ here f. unfit f.fitting) (λ f. unfit f.fitting) fine.0;
  }

  unit-keeps : (unit : UnitDecl) → AllByRecursion (λ (task : TaskDecl). IsTask task.name.text) (tasks_of_unit unit) → Keeps (rules.unit_part unit)
  unit-keeps (Lone task) each = declared-keeps _ task.name (task-tells task each.0)
  unit-keeps (Tx tx) each = λ scope tells.
      each-keeps rules.task_part tx.tasks
      (all-turned (λ (task : TaskDecl). IsTask task.name.text) (λ task. Keeps (rules.task_part task)) (λ task is. declared-keeps _ task.name (task-tells task is)) tx.tasks each)
      _ (declared-keeps _ tx.name (transaction-tells tx.name) scope tells)

  events-keep : (events : List Event) → AllByRecursion (λ event. Keeps (rules.event_part event)) events
  events-keep [] = tt
  events-keep (event ∷ more) = (declared-keeps _ event.name (event-tells event), events-keep more)

  globals-keep : Keeps (rules.globals_part program)
  unfolding rules.globals_part
  globals-keep =
      let vars = rules.in_turn (map rules.var_part program.vars) in
      let events = rules.in_turn (map rules.event_part program.events) in
      let units = rules.in_turn (map rules.unit_part program.units) in
      chain-keeps vars (rules.chain events units)
      (each-keeps rules.var_part program.vars
      (all-turned (λ (var : Var). IsVariable var.name.text) (λ var. Keeps (rules.var_part var)) (λ var is. declared-keeps _ var.name (variable-tells var.name var.length is)) program.vars (variables-found 0 program.vars)))
      (chain-keeps events units
      (each-keeps rules.event_part program.events (events-keep program.events))
      (each-keeps rules.unit_part program.units
      (all-turned (λ unit. AllByRecursion (λ (task : TaskDecl). IsTask task.name.text) (tasks_of_unit unit)) (λ unit. Keeps (rules.unit_part unit)) unit-keeps program.units
      (all-parts (λ (task : TaskDecl). IsTask task.name.text) tasks_of_unit program.units (tasks-found 0 (tasks program))))))

  nothing-told : Tells program [] []
  nothing-told = record {
    plain = λ name fine. unfit fine.0.fitting;
    item = λ name fine. unfit fine.0.fitting;
    next = λ name fine. unfit fine.0.fitting;
  }

  -- the names that each body has in scope
  pub globals_known : AreKnown program (rules.globals_part program []).scope []
  globals_known = record { tells = globals-keep [] nothing-told; in_scope = λ name among. absurd (true≢false (sym among)) }
