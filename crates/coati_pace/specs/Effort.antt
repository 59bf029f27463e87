-- What the bound on progress reads of a device, and its ranges. Nothing ties one part to another.
use Rattle.std.specs.Prelude.{ℕ, ◌+◌, ◌*◌, ◌≤◌}
use Rattle.task_syntax.specs.declared.program.Program.{Program}
use Rattle.task_syntax.specs.Names.{word_count}
use Rattle.task_check.specs.Numbers.{buffer_size}
use Rattle.task_cost.specs.Limits.{attempt_bound}
use Rattle.coati_pace.specs.declared.effort.Shape.{Shape}
use Rattle.coati_pace.specs.declared.effort.Place.{Place}
use Rattle.coati_pace.specs.declared.effort.Stage.{Stage}
use Rattle.coati_pace.specs.declared.effort.Stage.TheVariants.{Chooses, RunsTask, EndsTask, RunsBottom, EndsBottom}
use Rattle.coati_pace.specs.declared.effort.Effort.{Effort}

-- how large the device of a program is
abbrev pub shape_of : Program → Shape
shape_of program = record {
  words = word_count program.vars;
  slots = buffer_size program;
  attempt = attempt_bound program;
}

-- the writes of a commit or an undo, of an event's commit, and of emptying a task's log with its
-- flags, each at most
abbrev pub most_writes : Shape → ℕ
most_writes s = 8 * s.words + 20

abbrev pub event_writes : Shape → ℕ
event_writes s = s.words + 2

abbrev pub cleaning_writes : Shape → ℕ
cleaning_writes s = 2 * s.words + 2

-- the steps that suffice for progress
abbrev pub bound : Shape → ℕ
bound s = (s.slots + 3) * (s.attempt + most_writes s)

abbrev pub effort : (writes held : ℕ) → Place → Stage → Effort
effort writes held place stage = record {
  writes = writes;
  held = held;
  place = place;
  stage = stage;
}

abbrev pub IsStage : Shape → Stage → Type 0
IsStage s (Chooses cleaning begun) = cleaning ≤ cleaning_writes s
IsStage s (RunsTask left) = left + 2 ≤ s.attempt
IsStage s (EndsTask placed begun) = Unit {0}
IsStage s (RunsBottom left) = left + 2 ≤ s.attempt
IsStage s (EndsBottom begun) = Unit {0}

-- each part is in its range
pub record IsEffort (s : Shape) (e : Effort) : Type 0 where
  pub writes : e.writes ≤ most_writes s
  pub held : e.held ≤ s.slots
  pub stage : IsStage s e.stage

-- the limits of a device
pub record IsShape (s : Shape) : Type 0 where
  pub words : s.words ≤ 256
  pub slots : s.slots ≤ 32
  pub attempt : s.attempt ≤ 100001
