-- The sizes of accepted programs.
use Rattle.std.proofs.Common.{◌≡◌, ℕ, ◌+◌, ◌<◌, ◌≤◌, true, List, [], ◌∷◌, ◌++◌, length, ap, sym, ◌∙◌, arith, inl, inr, length-append}
use Rattle.std.specs.Prelude.{Option, Some, None, All, flat_map, slice_get, nat_le, ◌&&◌}
use Rattle.std.proofs.lemmas.Bool.{and_parts, cases_lt}
use Rattle.std.proofs.lemmas.Bool.Decides.{nat_tests}
use Rattle.std.proofs.lemmas.List.Elements.{All-nil, All-cons, All-head, All-weaker}
use Rattle.std.proofs.lemmas.Option.{slice_get-get_or}
use Rattle.task_syntax.specs.declared.name.Name.{Name}
use Rattle.task_syntax.specs.declared.name.Number.{Number}
use Rattle.task_syntax.specs.declared.program.Program.{Program}
use Rattle.task_syntax.specs.declared.program.Var.{Var}
use Rattle.task_syntax.specs.declared.program.Init.{Init}
use Rattle.task_syntax.specs.declared.program.Init.TheVariants as init
use Rattle.task_syntax.specs.declared.program.Event.{Event}
use Rattle.task_syntax.specs.declared.program.TaskDecl.{TaskDecl}
use Rattle.task_syntax.specs.declared.program.TxDecl.{TxDecl}
use Rattle.task_syntax.specs.declared.program.UnitDecl.{UnitDecl}
use Rattle.task_syntax.specs.Names.{count_of, given_values, tasks, tasks_of_unit, word_count}
use Rattle.task_check.specs.Accepted.{IsAccepted}
use Rattle.std.specs.Option.{option_map_or}
use Rattle.task_check.specs.Bodies.{bodies}
use Rattle.task_check.specs.Counts.{bad_buffer, bad_turns, bad_var, init_fits, is_between, length_fits, place_of, transactions, words_above}
use Rattle.task_check.specs.Least.{unless}
use Rattle.task_check.specs.Numbers.{buffer_size}
use Rattle.task_check.specs.Sizes.{GivenFits, HasSizes}
use Rattle.task_check.specs.WellFormed.{IsWellFormed}
use Rattle.task_check.proofs.NoPlaces.{first-empty, second-empty, held}

-- the words of variables

words-below : (before : ℕ) (vars : List Var) → before ≤ 256 → words_above before vars ≡ [] → before + word_count vars ≤ 256
words-below before [] few none = omega arith
words-below before (var ∷ vars) few none =
    let count = count_of var.length in
    let here = held (nat_le (before + count) 256) var.name.at (first-empty (unless (nat_le (before + count) 256) var.name.at) (words_above (before + count) vars) none) in
    let fits : before + count ≤ 256 = grind (arith, nat_tests) in
    let rest = words-below (before + count) vars fits (second-empty (unless (nat_le (before + count) 256) var.name.at) (words_above (before + count) vars) none) in
    omega (arith, rest)

-- what a variable is given fits it, and it has a word at least
given-fit : (length_of : Option ℕ) (init : Init) → init_fits length_of init ≡ true → length (given_values init) ≤ count_of length_of
given-fit length_of init.None fits = omega arith
given-fit None (init.One value) fits = omega arith
given-fit (Some count) (init.One value) fits = absurd cc
given-fit None (init.Many values) fits = absurd cc
given-fit (Some count) (init.Many values) fits = grind (arith, nat_tests)

pub count-some : (length_of : Option ℕ) → length_fits length_of ≡ true → 0 < count_of length_of
count-some None fits = omega arith
count-some (Some count) fits = grind (arith, nat_tests)

-- a variable whose place isn't told fits
pub record Fits (var : Var) : Type 0 where
  pub given : length (given_values var.init) ≤ count_of var.length
  pub some : 0 < count_of var.length

var-fits : (var : Var) → bad_var var ≡ [] → Fits var
var-fits var none =
    let fits = and_parts (length_fits var.length) (init_fits var.length var.init) (held (length_fits var.length && init_fits var.length var.init) var.name.at none) in
    record { given = given-fit var.length var.init fits.1; some = count-some var.length fits.0 }

vars-fit : (vars : List Var) → flat_map bad_var vars ≡ [] → All Fits vars
vars-fit [] none = All-nil Fits
vars-fit (var ∷ vars) none =
    All-cons Fits var vars (var-fits var (first-empty (bad_var var) (flat_map bad_var vars) none)) (vars-fit vars (second-empty (bad_var var) (flat_map bad_var vars) none))

words-some : (vars : List Var) → 0 < length vars → All Fits vars → 0 < word_count vars
words-some [] some fit = absurd (omega arith)
words-some (var ∷ vars) some fit = let first = All-head Fits var vars fit in omega (arith, first.some)

-- no more than so many are there
few : {X : Type 0} (name : X → Name) (xs : List X) (most : ℕ) → place_of name (slice_get xs most) ≡ [] → length xs ≤ most
few name [] most none = omega arith
few name (x ∷ xs) most none =
    elim (cases_lt most (length (x ∷ xs))) [
      | inl more ↦ absurd (let found = ap (place_of name) (sym (slice_get-get_or (x ∷ xs) most x more)) ∙ none in cc)
      | inr within ↦ within
    ]

-- each unit has a task
tasks-more : (units : List UnitDecl) → 0 < length units → All (λ (unit : UnitDecl). 0 < length (tasks_of_unit unit)) units → 0 < length (flat_map tasks_of_unit units)
tasks-more [] some full = absurd (omega arith)
tasks-more (unit ∷ units) some full =
    let first = All-head (λ (u : UnitDecl). 0 < length (tasks_of_unit u)) unit units full in
    omega (arith, first, length-append (tasks_of_unit unit) (flat_map tasks_of_unit units))

-- the buffer
pub record Holds (size : ℕ) : Type 0 where
  pub some : 0 < size
  pub most : size ≤ 32

declared-holds : (number : Number) → unless (is_between 1 32 number.value) number.at ≡ [] → Holds number.value
declared-holds number none = let fits = held (is_between 1 32 number.value) number.at none in record { some = grind (arith, nat_tests, fits); most = grind (arith, nat_tests, fits) }

holds : (buffer : Option Number) → bad_buffer buffer ≡ [] → Holds (option_map_or (λ (number : Number). number.value) buffer 8)
holds None none = record { some = omega arith; most = omega arith }
holds (Some number) none = declared-holds number none

module _ (program : Program) (accepted : IsAccepted program) where
  words-most : word_count program.vars ≤ 256
  words-most = let most = words-below 0 program.vars (omega arith) (accepted 6 (omega arith) (omega arith)) in omega (arith, most)

  variables-fit : All Fits program.vars
  variables-fit = vars-fit program.vars (first-empty (flat_map bad_var program.vars) (flat_map bad_turns (bodies program)) (accepted 4 (omega arith) (omega arith)))

  buffer-holds : Holds (buffer_size program)
  buffer-holds = holds program.buffer (accepted 5 (omega arith) (omega arith))

  late-tasks : List ℕ
  late-tasks = place_of (λ (task : TaskDecl). task.name) (slice_get (tasks program) 64)

  late-events : List ℕ
  late-events = place_of (λ (event : Event). event.name) (slice_get program.events 16)

  late-transactions : List ℕ
  late-transactions = place_of (λ (tx : TxDecl). tx.name) (slice_get (transactions program) 16)

  not-late : late-tasks ++ late-events ++ late-transactions ≡ []
  unfolding late-tasks late-events late-transactions
  not-late = accepted 7 (omega arith) (omega arith)

  tasks-most : length (tasks program) ≤ 64
  unfolding late-tasks
  tasks-most = few (λ (task : TaskDecl). task.name) (tasks program) 64 (first-empty late-tasks late-events (first-empty (late-tasks ++ late-events) late-transactions not-late))

  events-most : length program.events ≤ 16
  unfolding late-events
  events-most = few (λ (event : Event). event.name) program.events 16 (second-empty late-tasks late-events (first-empty (late-tasks ++ late-events) late-transactions not-late))

  transactions-most : length (transactions program) ≤ 16
  unfolding late-transactions
  transactions-most = few (λ (tx : TxDecl). tx.name) (transactions program) 16 (second-empty (late-tasks ++ late-events) late-transactions not-late)

  -- an accepted program has sizes within the limits
  pub sizes : IsWellFormed program → HasSizes program
  sizes formed = record {
    words_least = words-some program.vars formed.variables variables-fit;
    words_most = words-most;
    buffer_least = buffer-holds.some;
    buffer_most = buffer-holds.most;
    tasks_least = tasks-more program.units formed.units formed.members;
    tasks_most = tasks-most;
    events_most = events-most;
    transactions_most = transactions-most;
    arrays = All-weaker Fits (λ (var : Var). 0 < count_of var.length) (λ var fits. fits.some) program.vars variables-fit;
    given = All-weaker Fits GivenFits (λ var fits. fits.given) program.vars variables-fit;
    members = formed.members;
  }
