-- What a handler's steps ask of a device.
use Rattle.std.specs.Prelude.{ℕ, ◌+◌, ◌^◌, ◌<◌, ◌≤◌, ◌≡◌, Bool, List, [], ◌∷◌, Option, None, Some, length, false, true}
use Rattle.codegen.specs.Bodies.{program_code}
use Rattle.event_buffer.specs.Fill.{fill_change, is_full, tail_slot}
use Rattle.nv_memory.specs.InRange.{InRange}
use Rattle.nv_memory.specs.Seats.{Memory}
use Rattle.nv_memory.specs.State.{state}
use Rattle.task_cost.specs.Limits.{handler_bound}
use Rattle.task_check.specs.Accepted.{IsAccepted}
use Rattle.task_syntax.specs.declared.body.BodyId.TheVariants as body
use Rattle.task_syntax.specs.declared.program.Program.{Program}
use Rattle.task_syntax.specs.Events.{message_of}
use Rattle.word_code.specs.Code.{Bodies, HasBody}
use Rattle.word_cpu.specs.declared.cpu.Cpu.{Cpu}
use Rattle.word_cpu.specs.declared.turn.Turn.{Turn}
use Rattle.word_cpu.specs.declared.turn.Turn.TheVariants.{Went, Storing, Ended}
use Rattle.word_cpu.specs.UnderWay as machine
use Rattle.coati_device.specs.declared.device.Device.{Device}
use Rattle.coati_device.specs.declared.hand.Hand.{Hand}
use Rattle.coati_device.specs.declared.hand.Hand.TheVariants.{Accept, Fill, Over, Top}
use Rattle.coati_device.specs.declared.hand.Hand.TheVariants as hands
use Rattle.coati_device.specs.HandlerView.{handler_view}
use Rattle.coati_device.specs.Laws.{Fits, HoldsItsEvents}
use Rattle.coati_device.specs.Points.{IsTimed}
use Rattle.coati_device.specs.Raises.{first_hand}
use Rattle.coati_device.specs.ScratchView.{scratch_view}
use Rattle.coati_device.specs.TaskView.{HasWritten}

-- the machine can make its next step in a top half
pub record CanStepOnTop (code : Bodies) (cpu : Cpu) (words : List ℕ) : Type 0 where
  pub exists : HasBody code cpu.body
  pub few : length words ≤ 2 ^ 16
  pub ready : machine.IsReady scratch_view code cpu words

-- the next part of a posting can be written, and its bottom half started behind it
pub record CanFill (code : Bodies) (event : ℕ) (message : List ℕ) (part : ℕ) (d : Device)
    : Type 0 where
  pub range : InRange (state d.image)
  pub part_low : part < length message + 2
  pub exists : HasBody code (body.Bottom event)

-- what the top half gives with a step, where it ends
abbrev pub message_given : Turn → Option (List ℕ)
message_given (Went reading) = None
message_given Storing = None
message_given (Ended ending) = Some (message_of ending)

-- a half ends with a step
abbrev pub is_end : Turn → Bool
is_end (Went reading) = false
is_end Storing = false
is_end (Ended ending) = true

-- the part of a posting is written
pub record Fills (event : ℕ) (message : List ℕ) (part : ℕ) (old new : Device) : Type 0 where
  pub image : Memory
  pub wrote : HasWritten old.image (fill_change (tail_slot (state old.image)) event message part)
      image
  pub same : new ≡ record old { image = image }

-- the machine can make its next step in the bottom half of a handler
pub record CanStepInBottom (code : Bodies) (cpu : Cpu) (d : Device) : Type 0 where
  pub range : InRange (state d.image)
  pub free : is_full (state d.image) ≡ false
  pub exists : HasBody code cpu.body
  pub few : length (handler_view.words d.image) ≤ 2 ^ 16
  pub ready : machine.IsReady handler_view code cpu d.image
  pub room : 0 < d.waiting.room

-- the posting can be accepted
pub record CanAccept (d : Device) : Type 0 where
  pub range : InRange (state d.image)
  pub room : is_full (state d.image) ≡ false
  pub count : d.accepted + 1 < 2 ^ 32
  pub places : 0 < d.waiting.places

-- a handler of an event can make its next step
abbrev pub CanHandStep : Bodies → ℕ → Hand → Device → Type 0
CanHandStep code event (Top cpu words) d = CanStepOnTop code cpu words
CanHandStep code event (Fill message part) d = CanFill code event message part d
CanHandStep code event (hands.Bottom cpu) d = CanStepInBottom code cpu d
CanHandStep code event Accept d = CanAccept d
CanHandStep code event Over d = ⊥

-- there is room for what a handler reads, and for its event
pub record HasRoomToWait (d : Device) : Type 0 where
  pub readings : d.spare ≤ d.waiting.room
  pub places : 0 < d.waiting.places

-- a posting of an event can be handled: the buffer has room, and there is time and room for the
-- handler
pub record CanHandle (program : Program) (event : ℕ) (d : Device) : Type 0 where
  pub accepted : IsAccepted program
  pub fit : Fits program d
  pub known : event < length program.events
  pub room : is_full (state d.image) ≡ false
  pub spare : handler_bound program ≤ d.spare
  pub time : d.clock + d.spare < 2 ^ 32
  pub count : d.accepted + 1 < 2 ^ 32
  pub events : HoldsItsEvents program d
  pub waiting : HasRoomToWait d
  pub periods : List ℕ
  pub timed : IsTimed periods d.clock d.boots d.until
  pub few_periods : length periods ≤ 4096

-- and the handler is at its start
pub record IsAtHandler (code : Bodies) (event : ℕ) (first : Hand) (d : Device) : Type 0 where
  pub program : Program
  pub code_is : code ≡ program_code program
  pub argument : ℕ
  pub cpu : Cpu
  pub start : machine.IsAtStart (body.Top event) (argument ∷ []) cpu
  pub first_is : first ≡ first_hand program cpu
  pub can : CanHandle program event d

-- what a handler leaves: there is time for the mark and for the time of its last step
pub record LeavesTheRest (old new : Device) : Type 0 where
  pub cursors : new.cursors ≡ old.cursors
  pub history : new.history ≡ old.history
  pub spare : 0 < new.spare
  pub time : new.clock + 1 < 2 ^ 32
  pub boots : new.boots + 1 < 2 ^ 32
