-- A transaction that has a first task is one of the program's.
use Rattle.std.proofs.Common.{◌≡◌, ◌<◌, ◌≤◌, ◌+◌, ◌==◌, ℕ, zero, suc, Bool, true, false, List, [], ◌∷◌, length, refl, subst, arith, if◌then◌else◌}
use Rattle.std.specs.Prelude.{Option, Some, None, flat_map, replicate}
use Rattle.std.specs.List.{AllByRecursion}
use Rattle.std.proofs.lemmas.Bool.Decides.{nat_tests}
use Rattle.task_syntax.specs.declared.program.Program.{Program}
use Rattle.task_syntax.specs.declared.program.UnitDecl.{UnitDecl}
use Rattle.task_syntax.specs.declared.program.UnitDecl.TheVariants.{Lone, Tx}
use Rattle.task_syntax.specs.Units.{first_from, first_task, memberships}
use Rattle.task_check.specs.Counts.{transactions, transactions_of_unit}
use Rattle.shown_runs.proofs.Alls.{all-joined}

-- a task's transaction, where it has one, has a number below this
abbrev IsBelow : ℕ → Option ℕ → Type 0
IsBelow bound None = Unit {0}
IsBelow bound (Some tx) = tx < bound

below-more : (few most : ℕ) → few ≤ most → (member : Option ℕ) → IsBelow few member → IsBelow most member
below-more few most less None below = tt
below-more few most less (Some tx) below = omega (arith, below, less)

all-alike : (bound tx count : ℕ) → tx < bound → AllByRecursion (IsBelow bound) (replicate count (Some tx))
all-alike bound tx zero below = tt
all-alike bound tx (suc count) below = (below, all-alike bound tx count below)

members-below : (tx : ℕ) (units : List UnitDecl) (bound : ℕ) → tx + length (flat_map transactions_of_unit units) ≤ bound
    → AllByRecursion (IsBelow bound) (memberships tx units)
members-below tx [] bound fits = tt
members-below tx (Lone task ∷ more) bound fits = (tt, members-below tx more bound fits)
members-below tx (Tx members ∷ more) bound fits =
    let here : tx < bound = omega (arith, fits) in
    let next : (tx + 1) + length (flat_map transactions_of_unit more) ≤ bound = omega (arith, fits) in
    all-joined (IsBelow bound) (replicate (length members.tasks) (Some tx)) (memberships (tx + 1) more)
    (all-alike bound tx (length members.tasks) here) (members-below (tx + 1) more bound next)

found-below : (bound tx task : ℕ) (members : List (Option ℕ)) (place : ℕ) → AllByRecursion (IsBelow bound) members
    → first_from tx task members ≡ Some place → tx < bound
found-below bound tx task [] place below is = absurd cc
found-below bound tx task (None ∷ more) place below is = found-below bound tx (task + 1) more place below.1 is
found-below bound tx task (Some other ∷ more) place below is =
    by (other == tx) refl is (found-below bound tx (task + 1) more place below.1)
  where
    by : (same : Bool) → (other == tx) ≡ same → (if same then Some task else first_from tx (task + 1) more) ≡ Some place
        → (first_from tx (task + 1) more ≡ Some place → tx < bound) → tx < bound
    by true same is later = let e : other ≡ tx = grind (arith, nat_tests, same) in subst (λ (n : ℕ). n < bound) e below.0
    by false same is later = later is

pub known-transaction : (program : Program) (tx place : ℕ) → first_task program tx ≡ Some place → tx < length (transactions program)
known-transaction program tx place is =
    let bound = length (transactions program) in
    found-below bound tx 0 (memberships 0 program.units) place (members-below 0 program.units bound (omega arith)) is
