-- The members of transactions: where a transaction begins, and that none is behind the last task.
use Rattle.std.proofs.Common.{◌≡◌, ℕ, ◌≤◌, ◌==◌, refl, ap, sym, ◌∙◌, arith, inl, inr, List, [], ◌∷◌, ◌++◌, length, Bool, true, false, Option, Some, None, if◌then◌else◌}
use Rattle.std.specs.Prelude.{option_and_then, slice_get}
use Rattle.std.specs.Option.{option_map_or}
use Rattle.std.proofs.lemmas.Bool.{cases_lt}
use Rattle.std.proofs.lemmas.Bool.Decides.{nat_tests}
use Rattle.std.proofs.lemmas.Option.{slice_get-get_or, slice_get_past}
use Rattle.task_syntax.specs.declared.program.Program.{Program}
use Rattle.task_syntax.specs.declared.program.TaskDecl.{TaskDecl}
use Rattle.task_syntax.specs.declared.program.Event.{Event}
use Rattle.task_syntax.specs.declared.program.TxDecl.{TxDecl}
use Rattle.task_syntax.specs.Names.{tasks}
use Rattle.task_syntax.specs.Units.{first_from, first_task, halt, memberships, transaction_of}
use Rattle.task_check.specs.Accepted.{IsAccepted}
use Rattle.task_check.specs.Counts.{place_of, transactions}
use Rattle.task_check.specs.Transitions.{midst_of_task, unless_first}
use Rattle.nv_memory.proofs.Looks.{test_same}
use Rattle.coati_device.proofs.TaskEndings.{length-memberships}

-- the transaction, unless the place is its first
abbrev unless_at : (place tx : ℕ) → Option ℕ → Option ℕ
unless_at place tx first = if option_map_or (λ at. at == place) first false then None else Some tx

is_at : (place tx : ℕ) (first : Option ℕ) → unless_at place tx first ≡ None → first ≡ Some place
is_at place tx None none = absurd cc
is_at place tx (Some first) none = ap (λ (at : ℕ). Some at) (by (first == place) refl none)
  where
    by : (b : Bool) → (first == place) ≡ b → (if b then None else Some tx) ≡ None → first ≡ place
    by true is none = grind (arith, nat_tests)
    by false is none = absurd cc

-- a member that isn't in the midst of its transaction is the first of it
pub first_of_own : (program : Program) (tx place : ℕ) → transaction_of program place ≡ Some tx
    → midst_of_task program place ≡ None → first_task program tx ≡ Some place
first_of_own program tx place own midst =
    is_at place tx (first_task program tx)
    (sym (ap (option_and_then (unless_first program place)) own) ∙ midst)

-- task 0 is in the midst of none
pub none_midst_first : (program : Program) → midst_of_task program 0 ≡ None
none_midst_first program = by (memberships 0 program.units) refl
  where
    by : (members : List (Option ℕ)) → memberships 0 program.units ≡ members
        → midst_of_task program 0 ≡ None
    by [] e = rw e refl
    by (None ∷ more) e = rw e refl
    by (Some tx ∷ more) e =
        let first : first_task program tx ≡ Some 0 = ap (first_from tx 0) e
        ∙ ap (λ (b : Bool). if b then Some 0 else first_from tx 1 more) (test_same tx tx refl) in
        let own : transaction_of program 0 ≡ Some tx =
        ap (λ (members : List (Option ℕ)). option_and_then (λ own. own) (slice_get members 0)) e in
        ap (option_and_then (unless_first program 0)) own ∙ ap (unless_at 0 tx) first

none_late : (late : Option TaskDecl) (events transactions : List ℕ)
    → (place_of (λ (task : TaskDecl). task.name) late ++ events) ++ transactions ≡ [] → late ≡ None
none_late None events transactions none = refl
none_late (Some task) events transactions none = absurd cc

within_late : (xs : List TaskDecl) (most : ℕ) → slice_get xs most ≡ None → length xs ≤ most
within_late [] most none = omega arith
within_late (x ∷ xs) most none = elim (cases_lt most (length (x ∷ xs))) [
  | inl more ↦ absurd (let found = slice_get-get_or (x ∷ xs) most x more in cc)
  | inr within ↦ within
]

-- an accepted program has few tasks
few_tasks : (program : Program) → IsAccepted program → length (tasks program) ≤ 64
few_tasks program accepted =
    within_late (tasks program) 64
    (none_late (slice_get (tasks program) 64) late_events late_transactions
    (accepted 7 (omega arith) (omega arith)))
  where
    late_events : List ℕ
    late_events = place_of (λ (event : Event). event.name) (slice_get program.events 16)

    late_transactions : List ℕ
    late_transactions = place_of (λ (tx : TxDecl). tx.name) (slice_get (transactions program) 16)

-- behind the last task there is no member
pub none_behind : (program : Program) → IsAccepted program → transaction_of program halt ≡ None
none_behind program accepted =
    let few = few_tasks program accepted in
    let past : length (memberships 0 program.units) ≤ halt =
    omega (arith, few, length-memberships 0 program.units) in
    ap (λ (o : Option (Option ℕ)). option_and_then (λ tx. tx) o)
    (slice_get_past (memberships 0 program.units) halt past)
