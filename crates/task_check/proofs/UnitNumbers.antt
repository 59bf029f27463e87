-- The tasks and transactions of a program, and the words of its variables, counted one unit or variable after another.
use Rattle.std.proofs.Common.{◌≡◌, ℕ, zero, suc, ◌+◌, ◌-◌, ◌<◌, ◌≤◌, Bool, true, false, List, [], ◌∷◌, ◌++◌, length, get_or, drop, replicate, refl, ap, sym, subst, ◌∙◌, arith, inl, inr, length-append}
use Rattle.std.specs.Prelude.{Option, IfSome, Some, None, slice_get, unwrap_or, nat_eq, ◌==◌}
use Rattle.std.specs.Option.{option_eq, option_map_or}
use Rattle.std.specs.Str.{bytes_eq}
use Rattle.std.proofs.lemmas.Bool.Decides.{nat_tests}
use Rattle.std.proofs.lemmas.Bool.{cases_Bool}
use Rattle.std.proofs.lemmas.List.{drop_more, length-replicate}
use Rattle.task_syntax.specs.declared.program.Var.{Var}
use Rattle.task_syntax.specs.declared.program.TaskDecl.{TaskDecl}
use Rattle.task_syntax.specs.declared.program.UnitDecl.{UnitDecl}
use Rattle.task_syntax.specs.declared.program.UnitDecl.TheVariants.{Lone, Tx}
use Rattle.task_syntax.specs.Names.{count_of, first_values, given_values, task_from, tasks_of_unit, word_count}
use Rattle.task_syntax.specs.Units.{first_from, memberships}
use Rattle.task_check.specs.Counts.{transactions_of_unit}
use Rattle.task_check.specs.UnitWalk.{count_with, own_number}
use Rattle.task_check.proofs.Numbered.{get-append, get-append_past, get-replicate}

-- given values, and 0 behind them
filled : (xs : List ℕ) (n i : ℕ) → i < length xs + n → slice_get (xs ++ replicate n 0) i ≡ Some (unwrap_or (slice_get xs i) 0)
filled [] n i within = get-replicate n i 0 (omega arith)
filled (x ∷ xs) n zero within = refl
filled (x ∷ xs) n (suc i) within = filled xs n i (omega arith)

pub length-first_values : (var : Var) → length (given_values var.init) ≤ count_of var.length → length (first_values var) ≡ count_of var.length
length-first_values var fits =
    let zeros = length-replicate {A = ℕ} (count_of var.length - length (given_values var.init)) 0 in
    omega (arith, length-append (given_values var.init) (replicate (count_of var.length - length (given_values var.init)) 0), zeros)

pub get-first_values : (var : Var) (i : ℕ) → length (given_values var.init) ≤ count_of var.length → i < count_of var.length
    → slice_get (first_values var) i ≡ Some (unwrap_or (slice_get (given_values var.init) i) 0)
get-first_values var i fits within = filled (given_values var.init) (count_of var.length - length (given_values var.init)) i (omega arith)

-- the words of the variables from one on
pub word_count-from : (vars : List Var) (k : ℕ) (var : Var) → k < length vars → var ≡ get_or vars k var → word_count (drop k vars) ≡ count_of var.length + word_count (drop (k + 1) vars)
word_count-from vars k var within is = ap word_count (drop_more vars k var within ∙ ap (λ first. first ∷ drop (k + 1) vars) (sym is))

-- the tasks of a unit are members of what it is
pub memberships-cons : (tx : ℕ) (unit : UnitDecl) (more : List UnitDecl) → memberships tx (unit ∷ more) ≡ replicate (length (tasks_of_unit unit)) (own_number unit tx) ++ memberships (count_with unit tx) more
memberships-cons tx (Lone task) more = refl
memberships-cons tx (Tx members) more = refl

memberships-from : (units : List UnitDecl) (k : ℕ) (unit : UnitDecl) (tx : ℕ) → k < length units → unit ≡ get_or units k unit
    → memberships tx (drop k units) ≡ replicate (length (tasks_of_unit unit)) (own_number unit tx) ++ memberships (count_with unit tx) (drop (k + 1) units)
memberships-from units k unit tx within is = ap (memberships tx) (drop_more units k unit within ∙ ap (λ first. first ∷ drop (k + 1) units) (sym is)) ∙ memberships-cons tx unit (drop (k + 1) units)

pub count_with-is : (unit : UnitDecl) (tx : ℕ) → count_with unit tx ≡ tx + length (transactions_of_unit unit)
count_with-is (Lone task) tx = omega arith
count_with-is (Tx members) tx = refl

-- a unit's own number is below what is counted with it
own-within : (unit : UnitDecl) (before most : ℕ) → before + length (transactions_of_unit unit) ≤ most → IfSome (own_number unit before) (λ tx. tx < most)
own-within (Lone task) before most few = tt
own-within (Tx members) before most few = omega arith

pub own-below : (own : Option ℕ) (unit : UnitDecl) (before most : ℕ) → own ≡ own_number unit before → before + length (transactions_of_unit unit) ≤ most → IfSome own (λ tx. tx < most)
own-below own unit before most is few = subst (λ (o : Option ℕ). IfSome o (λ tx. tx < most)) (sym is) (own-within unit before most few)

pub membership-here : (units : List UnitDecl) (k : ℕ) (unit : UnitDecl) (tx i : ℕ) → k < length units → unit ≡ get_or units k unit → i < length (tasks_of_unit unit)
    → slice_get (memberships tx (drop k units)) i ≡ Some (own_number unit tx)
membership-here units k unit tx i within is here =
    let count = length (tasks_of_unit unit) in
    let own = replicate count (own_number unit tx) in
    let lengths : length own ≡ count = length-replicate count (own_number unit tx) in
    ap (λ list. slice_get list i) (memberships-from units k unit tx within is) ∙ get-append own (memberships (count_with unit tx) (drop (k + 1) units)) i (omega arith) ∙ get-replicate count i (own_number unit tx) here

pub membership-further : (units : List UnitDecl) (k : ℕ) (unit : UnitDecl) (tx i j : ℕ) → k < length units → unit ≡ get_or units k unit → i ≡ length (tasks_of_unit unit) + j
    → slice_get (memberships tx (drop k units)) i ≡ slice_get (memberships (count_with unit tx) (drop (k + 1) units)) j
membership-further units k unit tx i j within is past =
    let count = length (tasks_of_unit unit) in
    let own = replicate count (own_number unit tx) in
    let lengths : length own ≡ count = length-replicate count (own_number unit tx) in
    ap (λ list. slice_get list i) (memberships-from units k unit tx within is) ∙ get-append_past own (memberships (count_with unit tx) (drop (k + 1) units)) i j (omega arith)

-- whether it is this transaction
abbrev is_own : ℕ → Option ℕ → Bool
is_own tx own = option_map_or (λ x. x == tx) own false

pub option_eq-is_own : (tx : ℕ) (own : Option ℕ) → option_eq nat_eq own (Some tx) ≡ is_own tx own
option_eq-is_own tx None = refl
option_eq-is_own tx (Some own) = refl

-- the first task of a transaction, among those of one unit and those behind
first-here : (tx first n : ℕ) (own : Option ℕ) (rest : List (Option ℕ)) → 0 < n → is_own tx own ≡ true → first_from tx first (replicate n own ++ rest) ≡ Some first
first-here tx first zero own rest some is = absurd (omega arith)
first-here tx first (suc n) own rest some is = rw is refl

first-past : (tx first n : ℕ) (own : Option ℕ) (rest : List (Option ℕ)) → is_own tx own ≡ false → first_from tx first (replicate n own ++ rest) ≡ first_from tx (first + n) rest
first-past tx first zero own rest other = ap (λ place. first_from tx place rest) (omega arith)
first-past tx first (suc n) own rest other = rw other (first-past tx (first + 1) n own rest other ∙ ap (λ place. first_from tx place rest) (omega arith))

pub first-in_unit : (units : List UnitDecl) (k : ℕ) (unit : UnitDecl) (before tx first : ℕ) → k < length units → unit ≡ get_or units k unit → 0 < length (tasks_of_unit unit)
    → is_own tx (own_number unit before) ≡ true → first_from tx first (memberships before (drop k units)) ≡ Some first
first-in_unit units k unit before tx first within is some own =
    ap (first_from tx first) (memberships-from units k unit before within is) ∙ first-here tx first (length (tasks_of_unit unit)) (own_number unit before) (memberships (count_with unit before) (drop (k + 1) units)) some own

pub first-behind : (units : List UnitDecl) (k : ℕ) (unit : UnitDecl) (before tx first : ℕ) → k < length units → unit ≡ get_or units k unit
    → is_own tx (own_number unit before) ≡ false
    → first_from tx first (memberships before (drop k units)) ≡ first_from tx (first + length (tasks_of_unit unit)) (memberships (count_with unit before) (drop (k + 1) units))
first-behind units k unit before tx first within is other =
    ap (first_from tx first) (memberships-from units k unit before within is) ∙ first-past tx first (length (tasks_of_unit unit)) (own_number unit before) (memberships (count_with unit before) (drop (k + 1) units)) other

pub count_with-ahead : (unit : UnitDecl) (before tx : ℕ) → before ≤ tx → is_own tx (own_number unit before) ≡ false → count_with unit before ≤ tx
count_with-ahead (Lone task) before tx ahead other = ahead
count_with-ahead (Tx members) before tx ahead other = grind (arith, nat_tests)

-- the task of a name, among these and those behind
pub task_from-found : (first : ℕ) (xs ys : List TaskDecl) (name : List ℕ) (task : ℕ) → task_from first xs name ≡ Some task → task_from first (xs ++ ys) name ≡ Some task
task_from-found first [] ys name task found = absurd cc
task_from-found first (x ∷ xs) ys name task found =
    elim (cases_Bool (bytes_eq x.name.text name)) [
      | inl same ↦ rw same (rw same at found)
      | inr other ↦ rw other (task_from-found (first + 1) xs ys name task (rw other at found))
    ]

pub task_from-past : (first : ℕ) (xs ys : List TaskDecl) (name : List ℕ) → task_from first xs name ≡ None → task_from first (xs ++ ys) name ≡ task_from (first + length xs) ys name
task_from-past first [] ys name none = ap (λ n. task_from n ys name) (omega arith)
task_from-past first (x ∷ xs) ys name none =
    elim (cases_Bool (bytes_eq x.name.text name)) [
      | inl same ↦ absurd (let found : Some first ≡ None = rw same at none in cc)
      | inr other ↦ rw other (task_from-past (first + 1) xs ys name (rw other at none) ∙ ap (λ n. task_from n ys name) (omega arith))
    ]
