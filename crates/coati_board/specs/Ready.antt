-- What a step asks of a device: memory and attempt fit where the history leads, and there is room
-- for what the step records.
use Rattle.std.specs.Prelude.{ℕ, ◌+◌, ◌^◌, ◌<◌, ◌≤◌, ◌≡◌, List, Some, length}
use Rattle.buffi_sets.specs.Flags.{unflag_attempt_changes}
use Rattle.nv_memory.specs.declared.write.Write.{Write}
use Rattle.nv_memory.specs.Ring.{held_count}
use Rattle.nv_memory.specs.Seats.{Memory}
use Rattle.nv_memory.specs.State.{Change, State, Writes, first_undone, state}
use Rattle.nv_memory.specs.Words.{current, mode}
use Rattle.serial_log.specs.Standing.{standing_of}
use Rattle.task_check.specs.Accepted.{IsAccepted}
use Rattle.task_syntax.specs.declared.body.BodyId.{BodyId}
use Rattle.task_syntax.specs.declared.body.BodyId.TheVariants.{Bottom, Task, Top}
use Rattle.task_syntax.specs.declared.program.Program.{Program}
use Rattle.word_code.specs.Code.{Bodies, HasBody}
use Rattle.word_cpu.specs.declared.cpu.Cpu.{Cpu}
use Rattle.word_cpu.specs.UnderWay as machine
use Rattle.coati_device.specs.declared.device.Device.{Device}
use Rattle.coati_device.specs.declared.device.Phase.TheVariants.{Run}
use Rattle.coati_device.specs.BottomView.{bottom_view}
use Rattle.coati_device.specs.Laws.{Fits}
use Rattle.coati_device.specs.Points.{HasRoomFor, IsTimed}
use Rattle.coati_device.specs.Rows.{ComesToEvents, head_entry}
use Rattle.coati_device.specs.TaskView.{task_view}
use Rattle.coati_device.specs.Waits.{first_read}

-- the end of a task can be told, by a Done mark or by the record of its unit
pub record HasRoomToEnd (d : Device) : Type 0 where
  pub mark : 0 < d.history.mark_room
  pub unit : length d.attempt.items ≤ d.unit.room
  pub records : length d.unit.items + length d.attempt.items ≤ d.history.reading_room
  pub few : length d.history.readings + length d.unit.items + length d.attempt.items < 2 ^ 32
  pub finished : d.finished + 1 < 2 ^ 32
  pub time : d.clock + 1 < 2 ^ 32

-- a write takes back a flag that an attempt before has left, in mode buffi
pub record UnflagsBy (m : Memory) (write : Write) : Type 0 where
  pub buffi : mode (state m) ≡ 1
  pub change : Change
  pub next : first_undone (state m) (unflag_attempt_changes (state m)) ≡ Some change
  pub writes : Writes m change write

-- in buffi a held event is committed before the tasks go on
pub record ComesToDrain (s : State) : Type 0 where
  pub mode : mode s ≡ 1
  pub held : 0 < held_count s

-- what the event of the oldest held posting has read in its handler can be told
pub record HasRoomToDrain (d : Device) : Type 0 where
  pub records : length (first_read d.waiting.events) ≤ d.history.reading_room
  pub few : length d.history.readings + length (first_read d.waiting.events) < 2 ^ 32

-- the machine runs the task to run, and can make its next step
pub record RunsTheTask (code : Bodies) (d : Device) : Type 0 where
  pub cpu : Cpu
  pub left : ℕ
  pub phase : d.phase ≡ Run cpu left
  pub body : cpu.body ≡ Task (current (state d.image))
  pub exists : HasBody code cpu.body
  pub few : length (task_view.words d.image) ≤ 2 ^ 16
  pub ready : machine.IsReady task_view code cpu d.image

-- the machine runs the bottom half of the oldest held posting, and can make its next step
pub record RunsTheBottomHalf (code : Bodies) (d : Device) : Type 0 where
  pub cpu : Cpu
  pub left : ℕ
  pub phase : d.phase ≡ Run cpu left
  pub body : cpu.body ≡ Bottom (head_entry (state d.image)).event
  pub events : ComesToEvents (state d.image)
  pub exists : HasBody code cpu.body
  pub few : length (bottom_view.words d.image) ≤ 2 ^ 16
  pub ready : machine.IsReady bottom_view code cpu d.image

abbrev pub RunsIn : Bodies → Device → BodyId → Type 0
RunsIn code d (Task task) = RunsTheTask code d
RunsIn code d (Top event) = ⊥
RunsIn code d (Bottom event) = RunsTheBottomHalf code d

-- the machine runs, and can make its next step
pub record Runs (code : Bodies) (d : Device) : Type 0 where
  pub cpu : Cpu
  pub left : ℕ
  pub phase : d.phase ≡ Run cpu left
  pub can : RunsIn code d cpu.body

-- a row can be done; the postings that wait are numbered by those that were accepted
pub record CanAct (program : Program) (d : Device) : Type 0 where
  pub accepted : IsAccepted program
  pub fit : Fits program d
  pub numbered : (standing_of program d.history.marks).accepted ≡ d.accepted
  pub attempt : 0 < d.attempt.room
  pub end : HasRoomToEnd d
  pub drain : HasRoomToDrain d

-- and so can the time behind it
pub record IsReady (program : Program) (periods : List ℕ) (d : Device) : Type 0 where
  pub act : CanAct program d
  pub room : HasRoomFor 1 periods d
  pub timed : IsTimed periods d.clock d.boots d.until
  pub few_periods : length periods ≤ 4096
  pub steps : d.steps + 1 < 2 ^ 32
  pub spare : 0 < d.spare
