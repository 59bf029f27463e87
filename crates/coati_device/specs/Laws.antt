-- The laws of a device: each row keeps each point, and so does the time behind it.
use Rattle.std.specs.Prelude.{ℕ, suc, ◌+◌, ◌-◌, ◌^◌, ◌<◌, ◌≤◌, ◌≡◌, List, [], All, length, slice_index}
use mathlib.Core.List.{IsPrefix}
use Rattle.coati_word.specs.declared.mode.Mode.{Mode}
use Rattle.coati_word.specs.declared.mode.Mode.TheVariants.{Buffi, Split}
use Rattle.task_syntax.specs.declared.body.BodyId.{BodyId}
use Rattle.task_syntax.specs.declared.body.BodyId.TheVariants.{Bottom, Task, Top}
use Rattle.task_syntax.specs.declared.program.Program.{Program}
use Rattle.task_syntax.specs.Names.{opening_values}
use Rattle.task_check.specs.Accepted.{IsAccepted}
use Rattle.task_check.specs.Numbers.{buffer_size}
use Rattle.task_check.specs.Sizes.{HasSizes}
use Rattle.serial_log.specs.declared.record.Record.{Record}
use Rattle.serial_log.specs.History.{HasRecord, readings_in}
use Rattle.serial_log.specs.Legal.{IsLegalHistory}
use Rattle.serial_log.specs.Postings.{Terms}
use Rattle.serial_log.specs.Progresses.{ServesAborts, ServesAtOnce, ServesBetweenUnits}
use Rattle.serial_log.specs.Scripted.{AreBootsAtPeriods}
use Rattle.serial_log.specs.Standing.{standing_of}
use Rattle.nv_memory.specs.Blank.{blank, mode_word}
use Rattle.nv_memory.specs.Seats.{IsMemory, Memory}
use Rattle.nv_memory.specs.State.{state}
use Rattle.nv_memory.specs.Words.{mode}
use Rattle.codegen.specs.Bodies.{program_code}
use Rattle.word_code.specs.Code.{HasBody}
use Rattle.word_cpu.specs.declared.cpu.Cpu.{Cpu}
use Rattle.word_cpu.specs.Meaning.{Meaning}
use Rattle.word_cpu.specs.UnderWay.{IsReady}
use Rattle.task_cost.specs.Limits.{handler_bound}
use Rattle.serial_log.specs.declared.posted.Answer.{Answer}
use Rattle.serial_log.specs.declared.script.Posting.{Posting}
use Rattle.coati_device.specs.declared.device.Device.{Device}
use Rattle.coati_device.specs.declared.device.Phase.TheVariants.{Choose, Run}
use Rattle.coati_device.specs.HeldEvents.{EventsFit}
use Rattle.coati_device.specs.Points.{AreBootsTold, HasRoomFor, IsFit, IsLegalBy, IsSound, IsSoundBy, IsTimed, TakeTurns, reads_of}
use Rattle.coati_device.specs.Rows.{IsRow, IsStepOf}
use Rattle.coati_device.specs.BottomView.{bottom_view}
use Rattle.coati_device.specs.Cursors.{AreCursors, cursor_of, next_posting}
use Rattle.coati_device.specs.Raises.{Raises}
use Rattle.coati_device.specs.TaskView.{task_view}
use Rattle.coati_device.specs.Ticks.{ticked}

-- memory and the attempt of a device fit where its history leads
abbrev pub Fits : Program → Device → Type 0
Fits program d =
    IsFit program (program_code program) d.image (reads_of d) d.phase
    (standing_of program d.history.marks)

-- what a row makes of a device, in a program
abbrev pub Rows : Program → Device → Device → Type 0
Rows program old new = IsRow program (program_code program) old new

-- the accepted postings of the history are counted
abbrev pub AreCounted : Program → Device → Type 0
AreCounted program d = (standing_of program d.history.marks).accepted ≡ d.accepted

-- in buffi the held events of a device are what their logs and kept readings say
abbrev pub HoldsItsEvents : Program → Device → Type 0
HoldsItsEvents program d =
    EventsFit program (state d.image) (standing_of program d.history.marks) d.waiting.events

-- after each row memory and the attempt fit where the history leads; an event's commit tells its
-- posting by the number of those that were accepted
abbrev pub RowsKeepFit : Type 0
RowsKeepFit =
    (program : Program) (old new : Device) → IsAccepted program → Fits program old →
    HoldsItsEvents program old → AreCounted program old →
    Rows program old new → Fits program new

-- the held events stay what they are, the one that is committed aside
abbrev pub RowsKeepEvents : Type 0
RowsKeepEvents =
    (program : Program) (old new : Device) → IsAccepted program → Fits program old →
    HoldsItsEvents program old → AreCounted program old →
    Rows program old new → HoldsItsEvents program new

-- a row leaves the mode
abbrev pub RowsKeepMode : Type 0
RowsKeepMode =
    (program : Program) (old new : Device) → IsAccepted program → Fits program old →
    Rows program old new →
    mode (state new.image) ≡ mode (state old.image)

-- a row accepts no posting
abbrev pub RowsAcceptNone : Type 0
RowsAcceptNone = (program : Program) (old new : Device) → Rows program old new →
    AreCounted program old →
    AreCounted program new

-- the marks of each row are legal, and none is later than its time
abbrev pub RowsKeepLegal : Type 0
RowsKeepLegal =
    (terms : Terms) (old new : Device) → IsAccepted terms.program → Fits terms.program old →
    mode (state old.image) ≡ mode_word terms.mode →
    HoldsItsEvents terms.program old → AreCounted terms.program old →
    IsLegalBy terms old.history old.clock → Rows terms.program old new →
    IsLegalBy terms new.history (old.clock + 1)

-- tasks and events take turns
abbrev pub ServesEvents : Program → Device → Type 0
ServesEvents program d = TakeTurns program (state d.image) d.phase d.history.marks

-- and so they are after each row
abbrev pub RowsKeepTurns : Type 0
RowsKeepTurns =
    (program : Program) (old new : Device) → IsAccepted program → Fits program old →
    AreCounted program old → ServesEvents program old →
    Rows program old new →
    ServesEvents program new

-- what a row leaves
pub record LeavesTime (old new : Device) : Type 0 where
  pub clock : new.clock ≡ old.clock
  pub steps : new.steps ≡ old.steps
  pub boots : new.boots ≡ old.boots
  pub until : new.until ≡ old.until
  pub spare : new.spare ≡ old.spare

abbrev pub RowsLeaveTime : Type 0
RowsLeaveTime = (program : Program) (old new : Device) → Rows program old new → LeavesTime old new

-- a row tells no boot
abbrev pub RowsTellNoBoot : Type 0
RowsTellNoBoot =
    (program : Program) (periods : List ℕ) (boots : ℕ) (old new : Device) → Rows program old new →
    AreBootsTold periods boots program old.history → AreBootsTold periods boots program new.history

-- a row takes the room of one step
abbrev pub RowsTakeOneRoom : Type 0
RowsTakeOneRoom =
    (program : Program) (steps : ℕ) (periods : List ℕ) (old new : Device) → Rows program old new →
    HasRoomFor (suc steps) periods old → HasRoomFor steps periods new

-- old marks stay, and so do the readings of old records
pub record AreRecordsGrown (old new : Device) : Type 0 where
  pub marks : IsPrefix old.history.marks new.history.marks
  pub kept : (committed : Record) → HasRecord old.history committed →
      readings_in new.history.readings committed ≡ readings_in old.history.readings committed

-- no period is empty
abbrev pub ArePeriods : List ℕ → Type 0
ArePeriods periods = All (λ period. 1 ≤ period) periods

-- the time behind a step and its mark keeps what a device keeps: a boot is told exactly where a
-- period is over
abbrev pub TicksKeepSound : Type 0
TicksKeepSound =
    (terms : Terms) (periods : List ℕ) (d : Device) → ArePeriods periods →
    IsAccepted terms.program →
    IsSoundBy terms (program_code terms.program) periods (d.clock + 1) d →
    IsSound terms (program_code terms.program) periods (ticked periods d)

-- and the room for other steps
abbrev pub TicksKeepRoom : Type 0
TicksKeepRoom =
    (steps : ℕ) (periods : List ℕ) (d : Device) → IsTimed periods d.clock d.boots d.until →
    HasRoomFor steps periods d → HasRoomFor steps periods (ticked periods d)

-- what a step keeps and changes
pub record HasStepped (terms : Terms) (periods : List ℕ) (left : ℕ) (old new : Device)
    : Type 0 where
  pub sound : IsSound terms (program_code terms.program) periods new
  pub room : HasRoomFor left periods new
  pub clock : new.clock ≡ old.clock + 1
  pub steps : new.steps ≡ old.steps + 1
  pub spare : new.spare ≡ old.spare - 1
  pub grows : AreRecordsGrown old new

-- so each step does
abbrev pub StepsKeepSound : Type 0
StepsKeepSound =
    (terms : Terms) (periods : List ℕ) (left : ℕ) (old new : Device) → ArePeriods periods →
    IsAccepted terms.program →
    IsSound terms (program_code terms.program) periods old → HasRoomFor (suc left) periods old →
    IsStepOf terms.program (program_code terms.program) periods old new →
    HasStepped terms periods left old new

-- the device before its first step
pub record IsFresh (program : Program) (mode : Mode) (periods : List ℕ) (d : Device) : Type 0 where
  pub image : state d.image ≡ blank (opening_values program) (buffer_size program) mode
  pub memory : IsMemory d.image
  pub phase : d.phase ≡ Choose
  pub clock : d.clock ≡ 0
  pub steps : d.steps ≡ 0
  pub boots : d.boots ≡ 0
  pub until : d.until ≡ slice_index periods 0
  pub marks : d.history.marks ≡ []
  pub readings : d.history.readings ≡ []
  pub attempt : d.attempt.items ≡ []
  pub unit : d.unit.items ≡ []
  pub events : d.waiting.events ≡ []
  pub made : d.waiting.made ≡ []
  pub finished : d.finished ≡ 0
  pub accepted : d.accepted ≡ 0

-- keeps all of it
abbrev pub FreshDevicesAreSound : Type 0
FreshDevicesAreSound =
    (terms : Terms) (periods : List ℕ) (d : Device) → ArePeriods periods → HasSizes terms.program →
    IsFresh terms.program terms.mode periods d →
    IsSound terms (program_code terms.program) periods d

-- what a sound device stands for, in words of histories alone
pub record IsToldWell (terms : Terms) (periods : List ℕ) (d : Device) : Type 0 where
  pub legal : IsLegalHistory terms d.history
  pub boots : AreBootsAtPeriods terms.program periods d.clock d.history.marks
  pub split : terms.mode ≡ Split → ServesBetweenUnits terms.program d.history.marks
  pub buffi : terms.mode ≡ Buffi → ServesAtOnce terms.program d.history.marks
  pub aborts : ServesAborts d.history.marks

abbrev pub SoundDevicesAreToldWell : Type 0
SoundDevicesAreToldWell =
    (terms : Terms) (periods : List ℕ) (d : Device) → ArePeriods periods →
    IsSound terms (program_code terms.program) periods d → IsToldWell terms periods d

-- a machine can make its step over a view
pub record CanRunOver {V : Type 0} (meaning : Meaning V) (program : Program) (cpu : Cpu) (view : V)
    : Type 0 where
  pub body : HasBody (program_code program) cpu.body
  pub few : length (meaning.words view) ≤ 2 ^ 16
  pub ready : IsReady meaning (program_code program) cpu view

-- in a task over the task's view, in a bottom half over that one's
abbrev pub CanRunBody : Program → Memory → Cpu → BodyId → Type 0
CanRunBody program m cpu (Task task) = CanRunOver task_view program cpu m
CanRunBody program m cpu (Top event) = ⊥
CanRunBody program m cpu (Bottom event) = CanRunOver bottom_view program cpu m

abbrev pub CanRun : Program → Device → Cpu → Type 0
CanRun program d cpu = CanRunBody program d.image cpu cpu.body

abbrev pub RunningMachinesCanRun : Type 0
RunningMachinesCanRun =
    (program : Program) (d : Device) (cpu : Cpu) (left : ℕ) → IsAccepted program →
    Fits program d → d.phase ≡ Run cpu left →
    CanRun program d cpu

-- a handler makes so many machine steps at most
abbrev pub handler_steps : Program → ℕ
handler_steps program = handler_bound program

-- what a raised posting keeps and changes
pub record HasRaisedOne (terms : Terms) (periods : List ℕ) (postings : List Posting)
    (old new : Device) : Type 0 where
  pub sound : IsSound terms (program_code terms.program) periods new
  pub cursors : AreCursors postings new.history.marks new.cursors
  pub room : HasRoomFor new.spare periods new
  pub steps : new.steps ≡ old.steps
  pub spare : old.spare ≤ new.spare + handler_steps terms.program
  pub time : new.clock + new.spare ≤ old.clock + old.spare
  pub grows : AreRecordsGrown old new

-- so does each: the history is to be judged by the bound of handlers
abbrev pub RaisesKeepSound : Type 0
RaisesKeepSound =
    (terms : Terms) (periods : List ℕ) (postings : List Posting) (device : ℕ) (old new : Device)
    (answer : Answer) →
    ArePeriods periods → IsAccepted terms.program → handler_steps terms.program ≤ terms.handler →
    device < 8 →
    0 < (cursor_of old.cursors device).left →
    (next_posting postings old device).event < length terms.program.events →
    handler_steps terms.program ≤ old.spare →
    IsSound terms (program_code terms.program) periods old →
    AreCursors postings old.history.marks old.cursors →
    HasRoomFor old.spare periods old →
    Raises terms.program (program_code terms.program) periods postings device old new answer →
    HasRaisedOne terms periods postings old new
