-- What the parts of the need are at most, and how they grow.
use Rattle.std.proofs.Common.{◌≡◌, ◌≢◌, ℕ, zero, suc, ◌+◌, ◌*◌, ◌≤◌, Bool, true, false, refl, arith}
use Rattle.coati_word.specs.declared.mode.Mode.{Mode}
use Rattle.coati_word.specs.declared.mode.Mode.TheVariants.{Split, Buffi}
use Rattle.coati_pace.specs.declared.effort.Shape.{Shape}
use Rattle.coati_pace.specs.declared.effort.Place.{Place}
use Rattle.coati_pace.specs.declared.effort.Place.TheVariants.{Halted, Outside, Inside}
use Rattle.coati_pace.specs.Effort.{cleaning_writes}
use Rattle.coati_pace.specs.Need.{behind_oldest, cleaning_left, event_steps, events_before_end, events_first, missing, queue_steps, seen, steps_choosing, steps_ending, task_steps, undo_risk, undo_steps}

pub missing_most : (done : Bool) → missing done ≤ 1
unfolding missing
missing_most true = omega arith
missing_most false = omega arith

-- an oldest event that is begun is nearer, by one step at most
pub queue_most : (steps held : ℕ) (begun : Bool) →
    queue_steps steps held begun ≤ queue_steps steps held false
unfolding queue_steps missing
queue_most steps zero begun = omega arith
queue_most steps (suc held) true = omega arith
queue_most steps (suc held) false = omega arith

pub queue_nearly : (steps held : ℕ) (begun : Bool) →
    queue_steps steps held false ≤ queue_steps steps held begun + 1
unfolding queue_steps missing
queue_nearly steps zero begun = omega arith
queue_nearly steps (suc held) true = omega arith
queue_nearly steps (suc held) false = omega arith

pub queue_whole : (steps held : ℕ) → queue_steps steps held false ≡ held * (steps + 1)
unfolding queue_steps behind_oldest missing
queue_whole steps zero = omega arith
queue_whole steps (suc held) = omega arith

pub queue_within : (steps held : ℕ) (begun : Bool) →
    queue_steps steps held begun ≤ held * (steps + 1)
queue_within steps held begun = omega (arith, queue_most steps held begun, queue_whole steps held)

pub task_most : (s : Shape) (place : Place) (less cleaning : ℕ) → less ≤ cleaning →
    task_steps s place less ≤ task_steps s place cleaning
unfolding task_steps
task_most s Halted less cleaning few = omega arith
task_most s Outside less cleaning few = omega arith
task_most s Inside less cleaning few = omega arith

pub task_within : (s : Shape) (place : Place) (cleaning : ℕ) →
    task_steps s place cleaning ≤ cleaning + s.attempt + 2
unfolding task_steps
task_within s Halted cleaning = omega arith
task_within s Outside cleaning = omega arith
task_within s Inside cleaning = omega arith

pub task_runs : (s : Shape) (place : Place) (cleaning : ℕ) → place ≢ Halted →
    task_steps s place cleaning ≡ cleaning + s.attempt + 2
unfolding task_steps
task_runs s Halted cleaning there = absurd (there refl)
task_runs s Outside cleaning there = refl
task_runs s Inside cleaning there = refl

pub cleaning_most : (s : Shape) (writes events cleaning : ℕ) → cleaning ≤ cleaning_writes s →
    cleaning_left s writes events cleaning ≤ cleaning_writes s
unfolding cleaning_left
cleaning_most s zero zero cleaning few = few
cleaning_most s zero (suc events) cleaning few = omega arith
cleaning_most s (suc writes) events cleaning few = omega arith

pub risk_grows : (s : Shape) (place : Place) (events : ℕ) →
    undo_risk s place events ≤ undo_risk s place (suc events)
unfolding undo_risk
risk_grows s Halted events = omega arith
risk_grows s Outside events = omega arith
risk_grows s Inside zero = omega arith
risk_grows s Inside (suc events) = omega arith

pub risk_within : (s : Shape) (place : Place) (events : ℕ) →
    undo_risk s place events ≤ undo_steps s
unfolding undo_risk
risk_within s Halted events = omega arith
risk_within s Outside events = omega arith
risk_within s Inside zero = omega arith
risk_within s Inside (suc events) = omega arith

-- the most that comes where memory alone tells what is next, and all of it while writes are under
-- way
pub choosing_most : (s : Shape) (mode : Mode) (place : Place) (writes events cleaning : ℕ)
    (begun : Bool) → cleaning ≤ cleaning_writes s →
    steps_choosing s mode place writes events cleaning begun
    ≤ queue_steps (event_steps s mode) events false + undo_risk s place events
    + task_steps s place (cleaning_writes s)
unfolding steps_choosing
choosing_most s mode place writes events cleaning begun few =
    omega (
      arith,
      queue_most (event_steps s mode) events (seen writes begun),
      task_most s place (cleaning_left s writes events cleaning) (cleaning_writes s)
          (cleaning_most s writes events cleaning few),
    )

pub choosing_under : (s : Shape) (mode : Mode) (place : Place) (writes events cleaning : ℕ)
    (begun : Bool) →
    steps_choosing s mode place (suc writes) events cleaning begun
    ≡ queue_steps (event_steps s mode) events false + undo_risk s place events
    + task_steps s place (cleaning_writes s)
unfolding steps_choosing seen cleaning_left
choosing_under s mode place writes events cleaning begun = refl

-- where the oldest event is begun
pub choosing_begun : (s : Shape) (mode : Mode) (place : Place) (held cleaning : ℕ) →
    steps_choosing s mode place 0 (suc held) cleaning true
    ≡ behind_oldest (event_steps s mode) (suc held) + event_steps s mode
    + undo_risk s place (suc held) + task_steps s place (cleaning_writes s)
unfolding steps_choosing queue_steps seen cleaning_left missing
choosing_begun s mode place held cleaning = omega arith

-- so where a task has ended
pub ending_most : (s : Shape) (mode : Mode) (writes events : ℕ) (placed begun : Bool) →
    steps_ending s mode writes events placed begun ≤ steps_ending s mode 0 events false false
unfolding steps_ending seen missing
ending_most s mode writes zero placed begun = omega (arith, missing_most (seen writes placed))
ending_most s mode writes (suc events) placed begun =
    omega (arith, queue_most (event_steps s mode) (suc events) (seen writes begun))

pub ending_under : (s : Shape) (mode : Mode) (writes events : ℕ) (placed begun : Bool) →
    steps_ending s mode (suc writes) events placed begun ≡ steps_ending s mode 0 events false false
unfolding steps_ending seen
ending_under s mode writes zero placed begun = refl
ending_under s mode writes (suc events) placed begun = refl

pub ending_begun : (s : Shape) (mode : Mode) (held : ℕ) (placed : Bool) →
    steps_ending s mode 0 (suc held) placed true
    ≡ behind_oldest (event_steps s mode) (suc held) + event_steps s mode + undo_steps s
    + (cleaning_writes s + s.attempt + 2) + 2
unfolding steps_ending queue_steps seen missing
ending_begun s mode held placed = omega arith

pub ending_within : (s : Shape) (mode : Mode) (writes events : ℕ) (placed begun : Bool) →
    steps_ending s mode writes events placed begun
    ≤ events * (event_steps s mode + 1) + undo_steps s + (cleaning_writes s + s.attempt + 2) + 2
unfolding steps_ending
ending_within s mode writes zero placed begun = omega (arith, missing_most (seen writes placed))
ending_within s mode writes (suc events) placed begun =
    omega (arith, queue_within (event_steps s mode) (suc events) (seen writes begun))

pub ending_some : (s : Shape) (mode : Mode) (writes events : ℕ) (placed begun : Bool) →
    1 ≤ steps_ending s mode writes events placed begun
unfolding steps_ending
ending_some s mode writes zero placed begun = omega arith
ending_some s mode writes (suc events) placed begun = omega arith

-- which events come first
pub all_first : (mode : Mode) (place : Place) (held : ℕ) → place ≢ Inside →
    events_first mode place held ≡ held
unfolding events_first
all_first Buffi place held outside = refl
all_first Split Halted held outside = refl
all_first Split Outside held outside = refl
all_first Split Inside held outside = absurd (outside refl)

pub all_first_in_buffi : (place : Place) (held : ℕ) → events_first Buffi place held ≡ held
unfolding events_first
all_first_in_buffi place held = refl

pub first_within : (mode : Mode) (place : Place) (held : ℕ) →
    events_first mode place held ≤ held
unfolding events_first
first_within Buffi place held = omega arith
first_within Split Halted held = omega arith
first_within Split Outside held = omega arith
first_within Split Inside held = omega arith

pub before_end_within : (mode : Mode) (held : ℕ) → events_before_end mode held ≤ held
unfolding events_before_end
before_end_within Buffi held = omega arith
before_end_within Split held = omega arith

pub none_before_end : (mode : Mode) (place : Place) (held : ℕ) →
    events_first mode place held ≡ 0 → events_before_end mode held ≡ 0
unfolding events_first events_before_end
none_before_end Buffi place held none = none
none_before_end Split place held none = refl

-- in split nothing comes before the next task of an open transaction
pub split_events : (s : Shape) (place : Place) (held : ℕ) →
    queue_steps (event_steps s Split) (events_first Split place held) false
    + undo_risk s place (events_first Split place held) ≤ held * (event_steps s Split + 1)
unfolding events_first undo_risk queue_steps
split_events s Halted held = omega (arith, queue_whole (event_steps s Split) held)
split_events s Outside held = omega (arith, queue_whole (event_steps s Split) held)
split_events s Inside held = omega arith
