-- How many steps suffice until the next task ends or nothing is left to do, where no posting is
-- raised and no power is cut. Only what is done next is read as it stands; all that comes later
-- is counted at its greatest.
use Rattle.std.specs.Prelude.{ℕ, zero, suc, ◌+◌, ◌*◌, Bool, true, false}
use Rattle.coati_word.specs.declared.mode.Mode.{Mode}
use Rattle.coati_word.specs.declared.mode.Mode.TheVariants.{Split, Buffi}
use Rattle.coati_pace.specs.declared.effort.Shape.{Shape}
use Rattle.coati_pace.specs.declared.effort.Place.{Place}
use Rattle.coati_pace.specs.declared.effort.Place.TheVariants.{Halted, Outside, Inside}
use Rattle.coati_pace.specs.declared.effort.Stage.{Stage}
use Rattle.coati_pace.specs.declared.effort.Stage.TheVariants.{Chooses, RunsTask, EndsTask, RunsBottom, EndsBottom}
use Rattle.coati_pace.specs.declared.effort.Effort.{Effort}
use Rattle.coati_pace.specs.Effort.{most_writes, event_writes, cleaning_writes}

-- one step for what isn't done yet
unfoldable pub missing : Bool → ℕ
missing true = 0
missing false = 1

-- while writes are under way, nothing counts as done
unfoldable pub seen : (writes : ℕ) → Bool → Bool
seen zero done = done
seen (suc writes) done = false

-- A held event, from its second write on. In buffi it is committed: a marker, and its writes. In
-- split its bottom half starts and runs before, and the position behind the head is written.
unfoldable pub event_steps : Shape → Mode → ℕ
event_steps s Buffi = s.words + 3
event_steps s Split = s.attempt + s.words + 4

-- those behind the oldest one, each from its first write on
unfoldable pub behind_oldest : (steps held : ℕ) → ℕ
behind_oldest steps zero = 0
behind_oldest steps (suc held) = held * (steps + 1)

-- all of them, where the oldest may be begun
unfoldable pub queue_steps : (steps held : ℕ) → (begun : Bool) → ℕ
queue_steps steps zero begun = 0
queue_steps steps (suc held) begun = behind_oldest steps (suc held) + steps + missing begun

-- the next task: so many writes of cleaning, start and body, the place behind it, its marker
unfoldable pub task_steps : Shape → Place → (cleaning : ℕ) → ℕ
task_steps s Halted cleaning = 0
task_steps s Outside cleaning = cleaning + s.attempt + 2
task_steps s Inside cleaning = cleaning + s.attempt + 2

-- the writes of cleaning, where neither a write nor an event comes before them
unfoldable pub cleaning_left : Shape → (writes events cleaning : ℕ) → ℕ
cleaning_left s zero zero cleaning = cleaning
cleaning_left s zero (suc events) cleaning = cleaning_writes s
cleaning_left s (suc writes) events cleaning = cleaning_writes s

-- the held events that come before the next task
unfoldable pub events_first : Mode → Place → (held : ℕ) → ℕ
events_first Buffi place held = held
events_first Split Halted held = held
events_first Split Outside held = held
events_first Split Inside held = 0

-- those that come before the end of the present one
unfoldable pub events_before_end : Mode → (held : ℕ) → ℕ
events_before_end Buffi held = held
events_before_end Split held = 0

-- an abort with its undo
abbrev pub undo_steps : Shape → ℕ
undo_steps s = most_writes s + 2

-- an event may abort an open transaction
unfoldable pub undo_risk : Shape → Place → (events : ℕ) → ℕ
undo_risk s Inside (suc events) = undo_steps s
undo_risk s Inside zero = 0
undo_risk s Halted events = 0
undo_risk s Outside events = 0

-- where memory alone tells what is next
unfoldable pub steps_choosing : Shape → Mode → Place → (writes events cleaning : ℕ) →
    (begun : Bool) → ℕ
steps_choosing s mode place writes events cleaning begun =
    queue_steps (event_steps s mode) events (seen writes begun)
    + undo_risk s place events
    + task_steps s place (cleaning_left s writes events cleaning)

-- where a task has ended: its place and its marker; with events before these, an undo and the
-- task anew too
unfoldable pub steps_ending : Shape → Mode → (writes events : ℕ) → (placed begun : Bool) → ℕ
steps_ending s mode writes zero placed begun = missing (seen writes placed) + 1
steps_ending s mode writes (suc events) placed begun =
    queue_steps (event_steps s mode) (suc events) (seen writes begun)
    + undo_steps s
    + (cleaning_writes s + s.attempt + 2)
    + 2

-- where a bottom half has ended: its marker and its writes, the events behind it, the next task
unfoldable pub steps_behind_bottom : Shape → Place → (held : ℕ) → ℕ
steps_behind_bottom s place held =
    1 + event_writes s + behind_oldest (event_steps s Split) held
    + task_steps s place (cleaning_writes s)

-- behind the writes under way
unfoldable pub steps_ahead : Shape → Mode → (writes held : ℕ) → Place → Stage → ℕ
steps_ahead s mode writes held place (Chooses cleaning begun) =
    steps_choosing s mode place writes (events_first mode place held) cleaning begun
steps_ahead s mode writes held place (RunsTask left) =
    left + 1 + steps_ending s mode 0 (events_before_end mode held) false false
steps_ahead s mode writes held place (EndsTask placed begun) =
    steps_ending s mode writes (events_before_end mode held) placed begun
steps_ahead s mode writes held place (RunsBottom left) =
    left + 2 + steps_behind_bottom s place held
steps_ahead s mode writes held place (EndsBottom begun) =
    missing begun + steps_behind_bottom s place held

-- the steps that suffice until the next task ends or nothing is left to do
abbrev pub need : Shape → Mode → Effort → ℕ
need s mode e = e.writes + steps_ahead s mode e.writes e.held e.place e.stage
