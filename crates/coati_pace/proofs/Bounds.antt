-- The need is at most the bound, and 0 exactly where nothing is to do.
use Rattle.std.proofs.Common.{◌≡◌, ℕ, zero, suc, ◌+◌, ◌*◌, ◌≤◌, Bool, false, refl, arith}
use Rattle.std.proofs.Math.Nat.{mul-le-mul_left, mul-le-mul_right}
use Rattle.coati_word.specs.declared.mode.Mode.{Mode}
use Rattle.coati_word.specs.declared.mode.Mode.TheVariants.{Split, Buffi}
use Rattle.coati_pace.specs.declared.effort.Shape.{Shape}
use Rattle.coati_pace.specs.declared.effort.Place.{Place}
use Rattle.coati_pace.specs.declared.effort.Place.TheVariants.{Halted, Outside, Inside}
use Rattle.coati_pace.specs.declared.effort.Stage.{Stage}
use Rattle.coati_pace.specs.declared.effort.Stage.TheVariants.{Chooses, RunsTask, EndsTask, RunsBottom, EndsBottom}
use Rattle.coati_pace.specs.declared.effort.Effort.{Effort}
use Rattle.coati_pace.specs.Effort.{IsEffort, bound, cleaning_writes, effort, event_writes, most_writes}
use Rattle.coati_pace.specs.Need.{behind_oldest, event_steps, events_before_end, events_first, need, queue_steps, steps_ahead, steps_behind_bottom, steps_choosing, task_steps, undo_risk}
use Rattle.coati_pace.specs.Acts.{IsIdle}
use Rattle.coati_pace.specs.Laws.{IsBounded}
use Rattle.coati_pace.proofs.Parts.{before_end_within, choosing_most, ending_some, ending_within, first_within, missing_most, queue_whole, risk_within, task_within}

event_within : (s : Shape) (mode : Mode) → event_steps s mode + 1 ≤ s.attempt + most_writes s
unfolding event_steps
event_within s Split = omega arith
event_within s Buffi = omega arith

-- a whole buffer
events_within : (s : Shape) (mode : Mode) (events : ℕ) → events ≤ s.slots →
    events * (event_steps s mode + 1) ≤ s.slots * (s.attempt + most_writes s)
events_within s mode events few = omega (
  arith,
  mul-le-mul_left events (event_within s mode),
  mul-le-mul_right (s.attempt + most_writes s) few,
)

behind_within : (steps held : ℕ) → behind_oldest steps held ≤ held * (steps + 1)
unfolding behind_oldest
behind_within steps zero = omega arith
behind_within steps (suc held) = omega arith

bottom_within : (s : Shape) (place : Place) (held : ℕ) → held ≤ s.slots →
    steps_behind_bottom s place held
    ≤ 1 + event_writes s + s.slots * (s.attempt + most_writes s)
    + (cleaning_writes s + s.attempt + 2)
unfolding steps_behind_bottom
bottom_within s place held few = omega (
  arith,
  behind_within (event_steps s Split) held,
  events_within s Split held few,
  task_within s place (cleaning_writes s),
)

need_within : (s : Shape) (mode : Mode) (writes held : ℕ) (place : Place) (stage : Stage) →
    IsEffort s (effort writes held place stage) →
    need s mode (effort writes held place stage) ≤ bound s
unfolding steps_ahead
need_within s mode writes held place (Chooses cleaning begun) ok =
    let events = events_first mode place held in
    let few : events ≤ s.slots = omega (arith, ok.held, first_within mode place held) in
    omega (
      arith,
      ok.writes,
      choosing_most s mode place writes events cleaning begun ok.stage,
      queue_whole (event_steps s mode) events,
      events_within s mode events few,
      risk_within s place events,
      task_within s place (cleaning_writes s),
    )
need_within s mode writes held place (RunsTask left) ok =
    let events = events_before_end mode held in
    let few : events ≤ s.slots = omega (arith, ok.held, before_end_within mode held) in
    omega (
      arith,
      ok.writes,
      ok.stage,
      ending_within s mode 0 events false false,
      events_within s mode events few,
    )
need_within s mode writes held place (EndsTask placed begun) ok =
    let events = events_before_end mode held in
    let few : events ≤ s.slots = omega (arith, ok.held, before_end_within mode held) in
    omega (
      arith,
      ok.writes,
      ending_within s mode writes events placed begun,
      events_within s mode events few,
    )
need_within s mode writes held place (RunsBottom left) ok =
    omega (arith, ok.writes, ok.stage, bottom_within s place held ok.held)
need_within s mode writes held place (EndsBottom begun) ok =
    omega (arith, ok.writes, missing_most begun, bottom_within s place held ok.held)

event_some : (s : Shape) (mode : Mode) → 1 ≤ event_steps s mode
unfolding event_steps
event_some s Split = omega arith
event_some s Buffi = omega arith

bottom_some : (s : Shape) (place : Place) (held : ℕ) → 1 ≤ steps_behind_bottom s place held
unfolding steps_behind_bottom
bottom_some s place held = omega arith

-- where nothing is needed, nothing is to do
idle_at : (s : Shape) (mode : Mode) (writes held : ℕ) (place : Place) (stage : Stage) →
    need s mode (effort writes held place stage) ≡ 0 → IsIdle (effort writes held place stage)
unfolding steps_ahead steps_choosing task_steps queue_steps events_first
idle_at s mode (suc writes) held place stage none = absurd (omega (arith, none))
idle_at s Split zero zero Halted (Chooses cleaning begun) none = record {
  writes = refl;
  held = refl;
  place = refl;
  cleaning = cleaning;
  begun = begun;
  stage = refl;
}
idle_at s Buffi zero zero Halted (Chooses cleaning begun) none = record {
  writes = refl;
  held = refl;
  place = refl;
  cleaning = cleaning;
  begun = begun;
  stage = refl;
}
idle_at s Split zero (suc held) Halted (Chooses cleaning begun) none =
    absurd (omega (arith, none, event_some s Split))
idle_at s Buffi zero (suc held) Halted (Chooses cleaning begun) none =
    absurd (omega (arith, none, event_some s Buffi))
idle_at s mode zero held Outside (Chooses cleaning begun) none = absurd (omega (arith, none))
idle_at s mode zero held Inside (Chooses cleaning begun) none = absurd (omega (arith, none))
idle_at s mode zero held place (RunsTask left) none = absurd (omega (arith, none))
idle_at s mode zero held place (EndsTask placed begun) none =
    absurd (omega (arith, none, ending_some s mode 0 (events_before_end mode held) placed begun))
idle_at s mode zero held place (RunsBottom left) none = absurd (omega (arith, none))
idle_at s mode zero held place (EndsBottom begun) none =
    absurd (omega (arith, none, bottom_some s place held))

rests_at : (s : Shape) (mode : Mode) (cleaning : ℕ) (begun : Bool) →
    need s mode (effort 0 0 Halted (Chooses cleaning begun)) ≡ 0
unfolding steps_ahead steps_choosing task_steps queue_steps events_first undo_risk
rests_at s Split cleaning begun = refl
rests_at s Buffi cleaning begun = refl

rests : (s : Shape) (mode : Mode) (e : Effort) → IsIdle e → need s mode e ≡ 0
rests s mode e idle =
    rw (idle.writes, idle.held, idle.place, idle.stage) (rests_at s mode idle.cleaning idle.begun)

pub bounded : (s : Shape) (mode : Mode) (e : Effort) → IsEffort s e → IsBounded s mode e
bounded s mode e ok = record {
  most = need_within s mode e.writes e.held e.place e.stage ok;
  idle = (idle_at s mode e.writes e.held e.place e.stage, rests s mode e);
}
