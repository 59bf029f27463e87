-- No body of an accepted program costs more than 50,000, so that costs are told as they are.
use Rattle.std.proofs.Common.{◌≡◌, ℕ, ◌≤◌, List, [], ◌∷◌, ◌++◌, map, false, subst, arith, ltb-false, Some, ◌∙◌, sym, ap}
use Rattle.std.specs.Prelude.{max, flat_map, nat_lt, slice_get}
use Rattle.std.specs.Option.{option_map_or}
use Rattle.std.proofs.lemmas.Option.{get_or_from_slice_get, slice_get_within}
use Rattle.std.proofs.lemmas.List.Elements.{All-from_recursion}
use Rattle.std.specs.List.{AllByRecursion}
use Rattle.task_syntax.specs.declared.program.Program.{Program}
use Rattle.task_syntax.specs.declared.program.TaskDecl.{TaskDecl}
use Rattle.task_syntax.specs.declared.program.Event.{Event}
use Rattle.task_syntax.specs.Cost.{body_cost}
use Rattle.task_syntax.specs.Depth.{greatest}
use Rattle.task_syntax.specs.Names.{tasks}
use Rattle.task_syntax.specs.Saturated.{saturated}
use Rattle.task_syntax.specs.declared.body.BodyId.TheVariants as body
use Rattle.task_check.specs.Accepted.{IsAccepted}
use Rattle.task_check.specs.Bodies.{BodyRead, bodies, task_body, halves}
use Rattle.task_check.specs.Measures.{size_of, too_long, too_long_places}
use Rattle.task_check.proofs.NoPlaces.{first-empty, none-mapped, second-empty, test-fails}
use Rattle.task_cost.specs.Limits.{task_costs, event_costs, greatest_cost}
use Rattle.task_cost.specs.Bodies.{task_cost, event_cost, top_cost, bottom_cost, cost_of}

abbrev pub IsShort : Program → BodyRead → Type 0
IsShort program body = body_cost program body.statements body.kind ≤ 50000

-- what isn't too long is short
short_body : (program : Program) (body : BodyRead) → too_long program body ≡ [] → IsShort program body
short_body program body none =
    let small : nat_lt 50000 (size_of program body) ≡ false = test-fails (nat_lt 50000 (size_of program body)) (body.at, size_of program body) none in
    let most : size_of program body ≤ 50000 = ltb-false 50000 (size_of program body) small in
    omega (arith, most)

short_bodies : (program : Program) (among : List BodyRead) → flat_map (too_long program) among ≡ [] → AllByRecursion (IsShort program) among
short_bodies program [] none = tt
short_bodies program (body ∷ more) none = (
  short_body program body (first-empty (too_long program body) (flat_map (too_long program) more) none),
  short_bodies program more (second-empty (too_long program body) (flat_map (too_long program) more) none),
)

abbrev pub IsShortTask : Program → TaskDecl → Type 0
IsShortTask program task = task_cost program task ≤ 50000

abbrev pub AreShortHalves : Program → Event → Type 0
AreShortHalves program event = (top_cost program event ≤ 50000) × (bottom_cost program event ≤ 50000)

short_tasks : (program : Program) (among : List TaskDecl) (more : List BodyRead) → AllByRecursion (IsShort program) (map task_body among ++ more)
    → AllByRecursion (IsShortTask program) among × AllByRecursion (IsShort program) more
short_tasks program [] more all = (tt, all)
short_tasks program (task ∷ among) more all = let rest = short_tasks program among more all.1 in ((all.0, rest.0), rest.1)

short_events : (program : Program) (among : List Event) → AllByRecursion (IsShort program) (flat_map halves among) → AllByRecursion (AreShortHalves program) among
short_events program [] all = tt
short_events program (event ∷ among) all = ((all.0, all.1.0), short_events program among all.1.1)

-- the bodies of an accepted program
pub record HasShortBodies (program : Program) : Type 0 where
  pub tasks_short : AllByRecursion (IsShortTask program) (tasks program)
  pub events_short : AllByRecursion (AreShortHalves program) program.events

pub bodies_short : (program : Program) → IsAccepted program → HasShortBodies program
bodies_short program accepted =
    let none : map (λ (body : ℕ × ℕ). body.0) (too_long_places program) ≡ [] = accepted 16 (omega arith) (omega arith) in
    let all = short_bodies program (bodies program) (none-mapped (λ (body : ℕ × ℕ). body.0) (too_long_places program) none) in
    let parts = short_tasks program (tasks program) (flat_map halves program.events) all in
    record { tasks_short = parts.0; events_short = short_events program program.events parts.1 }

-- the greatest of numbers within a bound is within it
greatest_within : {X : Type 0} (f : X → ℕ) (bound : ℕ) (xs : List X) → AllByRecursion (λ x. f x ≤ bound) xs → greatest (map f xs) ≤ bound
greatest_within f bound [] all = omega arith
greatest_within f bound (x ∷ xs) all = let first = all.0 in let rest = greatest_within f bound xs all.1 in omega (arith, first, rest)

event_sums : (program : Program) (among : List Event) → AllByRecursion (AreShortHalves program) among → AllByRecursion (λ event. event_cost program event ≤ 100000) among
event_sums program [] all = tt
event_sums program (event ∷ among) all = (let halves_short = all.0 in omega (arith, halves_short.0, halves_short.1), event_sums program among all.1)

pub tasks_within : (program : Program) → IsAccepted program → greatest (task_costs program) ≤ 50000
tasks_within program accepted = greatest_within (task_cost program) 50000 (tasks program) (bodies_short program accepted).tasks_short

pub events_within : (program : Program) → IsAccepted program → greatest (event_costs program) ≤ 100000
events_within program accepted =
    greatest_within (event_cost program) 100000 program.events (event_sums program program.events (bodies_short program accepted).events_short)

-- what is within 32 bits is told as it is
told : (cost result bound : ℕ) → result ≡ saturated cost → cost ≤ bound → bound ≤ 100000 → (result ≡ cost) × (result ≤ bound)
told cost result bound is within small = (omega (arith, is, within, small), omega (arith, is, within, small))

-- the greatest cost of an accepted program is told as it is
pub greatest_told : (program : Program) (task event : ℕ) → IsAccepted program → task ≡ saturated (greatest (task_costs program)) → event ≡ saturated (greatest (event_costs program))
    → (max task event ≡ greatest_cost program) × (max task event ≤ 100000)
greatest_told program task event accepted is_task is_event =
    let by_tasks = told (greatest (task_costs program)) task 50000 is_task (tasks_within program accepted) (omega arith) in
    let by_events = told (greatest (event_costs program)) event 100000 is_event (events_within program accepted) (omega arith) in
    (ap (λ cost. max cost event) by_tasks.0 ∙ ap (max (greatest (task_costs program))) by_events.0, omega (arith, by_tasks.1, by_events.1))

-- what holds of all holds of the one with a number
one_of : {X : Type 0} (P : X → Type 0) (xs : List X) (number : ℕ) (x : X) → AllByRecursion P xs → slice_get xs number ≡ Some x → P x
one_of P xs number x all is = subst P (get_or_from_slice_get xs number x x is) (All-from_recursion P xs all number x (slice_get_within xs number x is))

-- so is the cost of each of its bodies
pub task_told : (program : Program) (number : ℕ) (task : TaskDecl) (result : ℕ) → IsAccepted program → slice_get (tasks program) number ≡ Some task → result ≡ saturated (task_cost program task)
    → (result ≡ cost_of program (body.Task number)) × (result ≤ 50000)
task_told program number task result accepted is is_result =
    let short = one_of (IsShortTask program) (tasks program) number task (bodies_short program accepted).tasks_short is in
    let both = told (task_cost program task) result 50000 is_result short (omega arith) in
    (both.0 ∙ sym (ap (λ found. option_map_or (task_cost program) found 0) is), both.1)

pub top_told : (program : Program) (number : ℕ) (event : Event) (result : ℕ) → IsAccepted program → slice_get program.events number ≡ Some event → result ≡ saturated (top_cost program event)
    → (result ≡ cost_of program (body.Top number)) × (result ≤ 50000)
top_told program number event result accepted is is_result =
    let short = one_of (AreShortHalves program) program.events number event (bodies_short program accepted).events_short is in
    let both = told (top_cost program event) result 50000 is_result short.0 (omega arith) in
    (both.0 ∙ sym (ap (λ found. option_map_or (top_cost program) found 0) is), both.1)

pub bottom_told : (program : Program) (number : ℕ) (event : Event) (result : ℕ) → IsAccepted program → slice_get program.events number ≡ Some event → result ≡ saturated (bottom_cost program event)
    → (result ≡ cost_of program (body.Bottom number)) × (result ≤ 50000)
bottom_told program number event result accepted is is_result =
    let short = one_of (AreShortHalves program) program.events number event (bodies_short program accepted).events_short is in
    let both = told (bottom_cost program event) result 50000 is_result short.1 (omega arith) in
    (both.0 ∙ sym (ap (λ found. option_map_or (bottom_cost program) found 0) is), both.1)
