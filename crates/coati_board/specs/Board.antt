-- A board as its callers see it: the program, the mode, the script, and the device.
use Rattle.std.specs.Prelude.{ℕ, ◌+◌, ◌*◌, ◌^◌, ◌<◌, ◌≤◌, ◌≡◌, List, [], ◌∷◌, length, slice_get, Option, Some, None}
use Rattle.coati_word.specs.declared.mode.Mode.{Mode}
use Rattle.codegen.specs.Bodies.{program_code}
use Rattle.nv_memory.specs.Blank.{blank}
use Rattle.nv_memory.specs.StandsFor.{IsIdle}
use Rattle.nv_memory.specs.Seats.{IsMemory, Memory}
use Rattle.nv_memory.specs.State.{state}
use Rattle.serial_log.specs.declared.end.End.{End}
use Rattle.serial_log.specs.declared.mark.Mark.{Mark}
use Rattle.serial_log.specs.declared.mark.MarkKind.{MarkKind}
use Rattle.serial_log.specs.declared.mark.MarkKind.TheVariants as kind
use Rattle.serial_log.specs.declared.posted.Answer.{Answer}
use Rattle.serial_log.specs.declared.script.Posting.{Posting}
use Rattle.serial_log.specs.declared.script.Script.{Script}
use Rattle.serial_log.specs.Postings.{Terms}
use Rattle.task_check.specs.Accepted.{IsAccepted}
use Rattle.task_check.specs.Numbers.{buffer_size}
use Rattle.task_check.specs.Sizes.{HasSizes}
use Rattle.task_cost.specs.Limits.{handler_bound}
use Rattle.task_syntax.specs.declared.program.Program.{Program}
use Rattle.task_syntax.specs.Names.{opening_values}
use Rattle.coati_device.specs.declared.device.Device.{Device}
use Rattle.coati_device.specs.Cursors.{AreCursors, cursor_of}
use Rattle.coati_device.specs.Laws.{IsFresh}
use Rattle.coati_device.specs.Points.{HasRoomFor, IsSound, uncommitted}
use Rattle.coati_device.specs.Raises.{Raises}
use Rattle.coati_device.specs.Rows.{IsStepOf}
use Rattle.device_pace.specs.Running.{IsPaced}
use Rattle.coati_board.specs.Cursors.{first_cursors, first_place}
use Rattle.coati_board.specs.Served.{IsScript}

pub record Whole : Type 0 where
  pub program : Program
  pub mode : Mode
  pub script : Script
  pub device : Device

-- what the board's history is judged by
abbrev pub terms_of : Program → Mode → Terms
terms_of program mode = record { program = program; mode = mode; handler = handler_bound program }

abbrev pub end_of_kind : MarkKind → Option End → Option End
end_of_kind (kind.End end) rest = Some end
end_of_kind _ rest = rest

-- how the run ended, where it has an End mark
abbrev pub end_of : List Mark → Option End
end_of [] = None
end_of (mark ∷ more) = end_of_kind mark.kind (end_of more)

-- the board has no End mark yet
abbrev pub IsOpen : Whole → Type 0
IsOpen board = end_of board.device.history.marks ≡ None

-- nothing is left to do
abbrev pub IsIdleBoard : Whole → Type 0
IsIdleBoard board = IsIdle (state board.device.image)

-- a board of a program before its first step
pub record IsOpened (program : Program) (mode : Mode) (script : Script)
    (board : Whole) : Type 0 where
  pub program_is : board.program ≡ program
  pub mode_is : board.mode ≡ mode
  pub script_is : board.script ≡ script
  pub fresh : IsFresh program mode script.power board.device
  pub cursors : board.device.cursors ≡ first_cursors script.postings

-- a board before its first step, with room for its steps and its handlers
pub record CanBeRun (board : Whole) : Type 0 where
  pub opened : IsOpened board.program board.mode board.script board
  pub room : board.script.limit + handler_bound board.program * length board.script.postings
      ≤ board.device.spare

-- a device before its first step, with room for all boots and for the End mark
pub record IsFreshDevice (program : Program) (mode : Mode) (script : Script) (d : Device)
    : Type 0 where
  pub fresh : IsFresh program mode script.power d
  pub cursors : d.cursors ≡ first_cursors script.postings
  pub spare : d.spare ≡ 0
  pub room : length script.power + 1 ≤ d.history.mark_room

-- both are boards of one program, mode and script
pub record IsSameRun (old new : Whole) : Type 0 where
  pub program : new.program ≡ old.program
  pub mode : new.mode ≡ old.mode
  pub script : new.script ≡ old.script

-- memory before the first step of a program
pub record IsBlankImage (program : Program) (mode : Mode) (m : Memory) : Type 0 where
  pub blank : state m ≡ blank (opening_values program) (buffer_size program) mode
  pub memory : IsMemory m

-- one step of the board
abbrev pub IsBoardStep : Whole → Whole → Type 0
IsBoardStep old new =
    IsStepOf old.program (program_code old.program) old.script.power old.device new.device

-- a device's next posting is raised, and answered
pub record IsRaise (old : Whole) (device : ℕ) (new : Whole) (answer : Answer) : Type 0 where
  pub raised : Raises old.program (program_code old.program) old.script.power
      old.script.postings device
      old.device new.device answer
  pub same : IsSameRun old new

-- a posting is refused: a mark more
pub record IsRefused (old new : Device) : Type 0 where
  pub image : new.image ≡ old.image
  pub phase : new.phase ≡ old.phase
  pub clock : new.clock ≡ old.clock
  pub marks : length new.history.marks ≡ length old.history.marks + 1

-- the first posting of the script that is left; none where all are raised
abbrev pub first_left : Whole → Option Posting
first_left board =
    slice_get board.script.postings (first_place board.device.cursors
    (length board.script.postings))

-- how many postings a device has left
abbrev pub left_of : Whole → ℕ → ℕ
left_of board device = (cursor_of board.device.cursors device).left

-- nothing is left to do, and no posting is left
pub record IsOver (board : Whole) : Type 0 where
  pub idle : IsIdleBoard board
  pub none_left : first_left board ≡ None

-- what a board keeps
pub record IsBoard (program : Program) (mode : Mode) (script : Script) (d : Device) : Type 0 where
  pub accepted : IsAccepted program
  pub sizes : HasSizes program
  pub scripted : IsScript program script
  pub sound : IsSound (terms_of program mode) (program_code program) script.power d
  pub paced : IsPaced (terms_of program mode) d
  pub cursors : AreCursors script.postings d.history.marks d.cursors
  pub steps : d.steps ≤ d.clock
  pub counted : d.accepted ≤ d.clock
  pub finished : d.finished ≤ d.clock
  pub limit : d.steps ≤ script.limit
  pub time : d.clock + d.spare < 2 ^ 32
  pub few : length d.history.readings + uncommitted d + d.spare < 2 ^ 32
  pub room : end_of d.history.marks ≡ None → HasRoomFor d.spare script.power d

-- all but the room is as it was
pub record IsRoomier (old new : Device) : Type 0 where
  pub same : new ≡ record old {
    history = new.history;
    attempt = new.attempt;
    unit = new.unit;
    waiting = new.waiting;
    spare = new.spare;
  }
  pub marks : new.history.marks ≡ old.history.marks
  pub readings : new.history.readings ≡ old.history.readings
  pub attempt : new.attempt.items ≡ old.attempt.items
  pub unit : new.unit.items ≡ old.unit.items
  pub events : new.waiting.events ≡ old.waiting.events
  pub made : new.waiting.made ≡ old.waiting.made
  pub spare : old.spare ≤ new.spare
