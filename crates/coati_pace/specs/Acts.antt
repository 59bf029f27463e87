-- What a device does, as the bound sees it. What a constructor doesn't tell of the parts behind it
-- is free: a conflict comes or doesn't, a log behind may be empty or not.
use Rattle.std.specs.Prelude.{ℕ, suc, ◌+◌, ◌<◌, ◌≤◌, ◌≡◌, ◌≢◌, Bool, true, false}
use Rattle.coati_word.specs.declared.mode.Mode.{Mode}
use Rattle.coati_word.specs.declared.mode.Mode.TheVariants.{Split, Buffi}
use Rattle.coati_pace.specs.declared.effort.Shape.{Shape}
use Rattle.coati_pace.specs.declared.effort.Place.{Place}
use Rattle.coati_pace.specs.declared.effort.Place.TheVariants.{Halted, Outside, Inside}
use Rattle.coati_pace.specs.declared.effort.Stage.{Stage}
use Rattle.coati_pace.specs.declared.effort.Stage.TheVariants.{Chooses, RunsTask, EndsTask, RunsBottom, EndsBottom}
use Rattle.coati_pace.specs.declared.effort.Effort.{Effort}
use Rattle.coati_pace.specs.Effort.{IsStage, cleaning_writes, effort, event_writes, most_writes}
use Rattle.coati_pace.specs.Need.{events_before_end, events_first}

-- a step of the executor that neither ends a task nor sleeps
pub data IsStep (s : Shape) (mode : Mode) (old new : Effort) : Type 0 where
  -- a write of the commit or the undo under way
  applies : (writes fewer held cleaning other : ℕ) (place : Place) (begun now : Bool) →
      fewer < writes → other ≤ cleaning_writes s →
      old ≡ effort writes held place (Chooses cleaning begun) →
      new ≡ effort fewer held place (Chooses other now) → IsStep s mode old new
  -- a write of an event's commit, below a task that has ended
  applies_below : (writes fewer held : ℕ) (place : Place) (placed begun now : Bool) →
      fewer < writes →
      old ≡ effort writes held place (EndsTask placed begun) →
      new ≡ effort fewer held place (EndsTask placed now) → IsStep s mode old new
  -- a write that empties the log or takes back a flag of the next task
  cleans : (held cleaning less : ℕ) (place : Place) (begun now : Bool) →
      events_first mode place held ≡ 0 → place ≢ Halted → less < cleaning →
      old ≡ effort 0 held place (Chooses cleaning begun) →
      new ≡ effort 0 held place (Chooses less now) → IsStep s mode old new
  -- the task starts
  starts : (held cleaning left : ℕ) (place : Place) (begun : Bool) →
      events_first mode place held ≡ 0 → place ≢ Halted → left + 2 ≤ s.attempt →
      old ≡ effort 0 held place (Chooses cleaning begun) →
      new ≡ effort 0 held place (RunsTask left) → IsStep s mode old new
  -- the machine makes a step in the task
  runs : (held left less : ℕ) (place : Place) → less < left →
      old ≡ effort 0 held place (RunsTask left) →
      new ≡ effort 0 held place (RunsTask less) → IsStep s mode old new
  -- and the task ends
  ends : (held left : ℕ) (place : Place) (placed begun : Bool) →
      old ≡ effort 0 held place (RunsTask left) →
      new ≡ effort 0 held place (EndsTask placed begun) → IsStep s mode old new
  -- the place behind the task is written
  prepares : (held : ℕ) (place : Place) (begun : Bool) → events_before_end mode held ≡ 0 →
      old ≡ effort 0 held place (EndsTask false begun) →
      new ≡ effort 0 held place (EndsTask true begun) → IsStep s mode old new
  -- in split: the log of the oldest held event is emptied
  empties_entry : (held cleaning other : ℕ) (place : Place) → mode ≡ Split → place ≢ Inside →
      other ≤ cleaning_writes s →
      old ≡ effort 0 (suc held) place (Chooses cleaning false) →
      new ≡ effort 0 (suc held) place (Chooses other true) → IsStep s mode old new
  -- its bottom half starts
  starts_bottom : (held cleaning left : ℕ) (place : Place) → mode ≡ Split → place ≢ Inside →
      left + 2 ≤ s.attempt →
      old ≡ effort 0 (suc held) place (Chooses cleaning true) →
      new ≡ effort 0 (suc held) place (RunsBottom left) → IsStep s mode old new
  -- the machine makes a step in it
  runs_bottom : (held left less : ℕ) (place : Place) → less < left →
      old ≡ effort 0 held place (RunsBottom left) →
      new ≡ effort 0 held place (RunsBottom less) → IsStep s mode old new
  -- and the bottom half ends
  ends_bottom : (held left : ℕ) (place : Place) (begun : Bool) →
      old ≡ effort 0 held place (RunsBottom left) →
      new ≡ effort 0 held place (EndsBottom begun) → IsStep s mode old new
  -- the position behind the head is written
  prepares_event : (held : ℕ) (place : Place) →
      old ≡ effort 0 held place (EndsBottom false) →
      new ≡ effort 0 held place (EndsBottom true) → IsStep s mode old new
  -- the event is committed
  commits_event : (held writes cleaning : ℕ) (place : Place) (begun : Bool) → mode ≡ Split →
      writes ≤ event_writes s → cleaning ≤ cleaning_writes s →
      old ≡ effort 0 (suc held) place (EndsBottom true) →
      new ≡ effort writes held place (Chooses cleaning begun) → IsStep s mode old new
  -- in buffi: an open transaction is aborted for the oldest held event
  aborts : (held writes cleaning other : ℕ) (begun now : Bool) → mode ≡ Buffi →
      writes ≤ most_writes s → other ≤ cleaning_writes s →
      old ≡ effort 0 (suc held) Inside (Chooses cleaning begun) →
      new ≡ effort writes (suc held) Outside (Chooses other now) → IsStep s mode old new
  -- so is a unit of which a task has ended
  drops : (held writes cleaning : ℕ) (place : Place) (placed begun now : Bool) → mode ≡ Buffi →
      writes ≤ most_writes s → cleaning ≤ cleaning_writes s →
      old ≡ effort 0 (suc held) place (EndsTask placed begun) →
      new ≡ effort writes (suc held) Outside (Chooses cleaning now) → IsStep s mode old new
  -- the position behind the head is written
  prepares_drain : (held cleaning other : ℕ) (place : Place) → mode ≡ Buffi →
      other ≤ cleaning_writes s →
      old ≡ effort 0 (suc held) place (Chooses cleaning false) →
      new ≡ effort 0 (suc held) place (Chooses other true) → IsStep s mode old new
  -- so below a task that has ended
  prepares_below : (held : ℕ) (place : Place) (placed : Bool) → mode ≡ Buffi →
      old ≡ effort 0 (suc held) place (EndsTask placed false) →
      new ≡ effort 0 (suc held) place (EndsTask placed true) → IsStep s mode old new
  -- the event is committed
  drains : (held writes cleaning other : ℕ) (place : Place) (begun : Bool) → mode ≡ Buffi →
      writes ≤ event_writes s → other ≤ cleaning_writes s →
      old ≡ effort 0 (suc held) place (Chooses cleaning true) →
      new ≡ effort writes held place (Chooses other begun) → IsStep s mode old new
  -- so below a task that has ended
  drains_below : (held writes : ℕ) (place : Place) (placed begun : Bool) → mode ≡ Buffi →
      writes ≤ event_writes s →
      old ≡ effort 0 (suc held) place (EndsTask placed true) →
      new ≡ effort writes held place (EndsTask placed begun) → IsStep s mode old new

-- from here on the next progress is counted anew
pub data IsRestart (s : Shape) (mode : Mode) (old new : Effort) : Type 0 where
  -- a task that has ended is merged into its transaction, or its unit is committed
  progresses : (held writes cleaning : ℕ) (before after : Place) (begun now : Bool) →
      events_before_end mode held ≡ 0 → writes ≤ most_writes s → cleaning ≤ cleaning_writes s →
      old ≡ effort 0 held before (EndsTask true begun) →
      new ≡ effort writes held after (Chooses cleaning now) → IsRestart s mode old new
  -- the power was cut, at any stage
  boots : (cleaning : ℕ) (begun : Bool) → cleaning ≤ cleaning_writes s →
      new ≡ record old { stage = Chooses cleaning begun } → IsRestart s mode old new
  -- a posting was accepted; the handler may have changed what is left of the stage
  accepts : (stage : Stage) → old.held + 1 ≤ s.slots → IsStage s stage →
      new ≡ record old { held = old.held + 1; stage = stage } → IsRestart s mode old new
  -- a posting was raised, and the handler was broken off
  loses : (stage : Stage) → IsStage s stage →
      new ≡ record old { stage = stage } → IsRestart s mode old new

-- nothing is to do
pub record IsIdle (e : Effort) : Type 0 where
  pub writes : e.writes ≡ 0
  pub held : e.held ≡ 0
  pub place : e.place ≡ Halted
  pub cleaning : ℕ
  pub begun : Bool
  pub stage : e.stage ≡ Chooses cleaning begun
