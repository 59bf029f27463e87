-- What a device keeps, point by point. Each point is said of parts of the device, so that a cut of
-- power, which makes the phase `Choose`, leaves all that memory stands for.
use Rattle.std.specs.Prelude.{ℕ, ◌+◌, ◌-◌, ◌^◌, ◌<◌, ◌≤◌, ◌≡◌, List, [], ◌∷◌, length, take, slice_get, sum, All, None, Some, true, false, ◌⊎◌}
use Rattle.std.specs.Option.{option_map_or}
use Rattle.coati_word.specs.declared.reading.Reading.{Reading}
use Rattle.task_syntax.specs.declared.program.Program.{Program}
use Rattle.task_syntax.specs.declared.body.BodyId.{BodyId}
use Rattle.task_syntax.specs.declared.body.BodyId.TheVariants.{Bottom, Task, Top}
use Rattle.task_syntax.specs.Events.{message}
use Rattle.task_syntax.specs.Names.{tasks, word_count}
use Rattle.task_check.specs.Numbers.{buffer_size}
use Rattle.serial_log.specs.declared.held.Held.{Held}
use Rattle.serial_log.specs.History.{AreRecordsIn, Past}
use Rattle.serial_log.specs.Legal.{AreMarksLegal}
use Rattle.serial_log.specs.Marks.{boot_times}
use Rattle.serial_log.specs.declared.mark.Mark.{Mark}
use Rattle.serial_log.specs.Postings.{IsDue, Terms}
use Rattle.serial_log.specs.Progresses.{ServesAborts, ServesAtOnce, ServesBetweenUnits, awaited_of, settled_of}
use Rattle.serial_log.specs.Scripted.{ends_from}
use Rattle.serial_log.specs.Standing.{Standing, rest_of, standing_of}
use Rattle.nv_memory.specs.Blank.{mode_word}
use Rattle.nv_memory.specs.InRange.{ArePlacesInRange, InRange, IsClosed}
use Rattle.nv_memory.specs.Ring.{Entry, held_entries}
use Rattle.nv_memory.specs.Seats.{IsMemory, Memory}
use Rattle.nv_memory.specs.StandsFor.{committed_word, place_of}
use Rattle.nv_memory.specs.State.{State, state}
use Rattle.nv_memory.specs.Words.{mode}
use Rattle.word_code.specs.Code.{Bodies}
use Rattle.coati_device.specs.declared.device.Device.{Device}
use Rattle.coati_device.specs.declared.device.Phase.{Phase}
use Rattle.coati_device.specs.declared.device.Phase.TheVariants.{Choose, Run, End, EndBottom}
use Rattle.coati_device.specs.Attempt.{IsAttempt}
use Rattle.coati_device.specs.HeldEvents.{EventsFit}
use Rattle.coati_device.specs.OpenUnit.{IsUnitPlace, OpenUnitFits, has_unit}
use Rattle.coati_device.specs.Waits.{waiting_count}

-- memory is one of the program, in range, and a closed transaction leaves nothing behind
pub record IsMemoryOf (program : Program) (m : Memory) : Type 0 where
  pub memory : IsMemory m
  pub words : m.n ≡ word_count program.vars
  pub slots : m.k ≡ buffer_size program
  pub range : InRange (state m)
  pub places : ArePlacesInRange (length (tasks program)) (state m)
  pub closed : IsClosed (state m)
  pub mode : mode (state m) < 2

-- what the top half of a posting's event gives
abbrev pub message_to : Program → Held → List ℕ
message_to program held = option_map_or (λ event. message program event held.argument)
    (slice_get program.events held.event) []

-- an entry has its posting's event, which is one of the program's, and its message
pub record IsEntryOf (program : Program) (entry : Entry) (held : Held) : Type 0 where
  pub known : held.event < length program.events
  pub event : entry.event ≡ held.event
  pub message : take (length (message_to program held)) entry.message ≡ message_to program held

-- the entries are those of the postings, in their order
abbrev pub AreHeld : Program → List Entry → List Held → Type 0
AreHeld program [] [] = Unit {0}
AreHeld program [] (held ∷ more) = ⊥
AreHeld program (entry ∷ entries) [] = ⊥
AreHeld program (entry ∷ entries) (held ∷ more) = IsEntryOf program entry held
    × AreHeld program entries more

-- memory stands for where the history leads
pub record StandsFor (program : Program) (s : State) (standing : Standing) : Type 0 where
  pub words : (word : ℕ) → committed_word s word ≡ standing.run.store word
  pub place : place_of s ≡ standing.run.place
  pub held : AreHeld program (held_entries s) standing.rest

-- the readings of an attempt and of the finished tasks of its unit, and how many these are
pub record Reads : Type 0 where
  pub attempt : List Reading
  pub unit : List Reading
  pub finished : ℕ

abbrev pub reads_of : Device → Reads
reads_of d = record { attempt = d.attempt.items; unit = d.unit.items; finished = d.finished }

-- postings are numbered one by one
abbrev pub AreNumberedFrom : ℕ → List Held → Type 0
AreNumberedFrom number [] = Unit {0}
AreNumberedFrom number (held ∷ more) = (held.number ≡ number) × AreNumberedFrom (number + 1) more

-- those that wait are the last accepted ones
pub record AreLastAccepted (standing : Standing) : Type 0 where
  pub few : length standing.rest ≤ standing.accepted
  pub numbered : AreNumberedFrom (standing.accepted + 1 - length standing.rest) standing.rest

-- memory, the open unit and the attempt fit where the history leads
pub record IsFit (program : Program) (code : Bodies) (m : Memory) (reads : Reads) (phase : Phase)
    (standing : Standing) : Type 0 where
  pub memory : IsMemoryOf program m
  pub stands : StandsFor program (state m) standing
  pub waiting : AreLastAccepted standing
  pub place : IsUnitPlace program standing.run.place
  pub unit : OpenUnitFits program (state m) standing.run reads.unit reads.finished
  pub attempt : IsAttempt program code m standing.rest reads.attempt phase

-- the history is legal, and no mark is later than this
pub record IsLegalBy (terms : Terms) (past : Past) (at : ℕ) : Type 0 where
  pub records : AreRecordsIn (length past.readings) past.marks
  pub legal : AreMarksLegal terms past.readings past.marks
  pub booted : (standing_of terms.program past.marks).lost ≡ None
  pub latest : (standing_of terms.program past.marks).latest ≤ at

-- The clock is within the power period behind the last boot: the periods before it are over, and
-- so many steps are left of it.
pub record IsTimed (periods : List ℕ) (clock boots until : ℕ) : Type 0 where
  pub few : boots ≤ length periods
  pub past : sum (take boots periods) ≤ clock
  pub some_left : boots < length periods → 0 < until
  pub within : boots < length periods → clock + until ≡ sum (take (boots + 1) periods)
  pub behind : boots ≡ length periods → until ≡ 0

-- the boots of the history are those of the periods that are over
pub record AreBootsTold (periods : List ℕ) (boots : ℕ) (program : Program) (past : Past)
    : Type 0 where
  pub times : boot_times past.marks ≡ take boots (ends_from 0 periods)
  pub counted : (standing_of program past.marks).boots ≡ boots
  pub last : (standing_of program past.marks).last_boot ≡ sum (take boots periods)

-- how many readings are in no record yet
abbrev pub uncommitted : Device → ℕ
uncommitted d = length d.unit.items + length d.attempt.items + waiting_count d.waiting

-- there is room for what so many steps record, for the boots to come, and for the End mark
pub record HasRoomFor (steps : ℕ) (periods : List ℕ) (d : Device) : Type 0 where
  pub marks : steps + (length periods - d.boots) + 1 ≤ d.history.mark_room
  pub attempt : steps ≤ d.attempt.room
  pub unit : length d.attempt.items + steps ≤ d.unit.room
  pub waiting : steps ≤ d.waiting.room
  pub places : steps ≤ d.waiting.places
  pub records : uncommitted d + steps ≤ d.history.reading_room
  pub few : length d.history.readings + uncommitted d + steps < 2 ^ 32

abbrev pub IsBodyOfTask : BodyId → Type 0
IsBodyOfTask (Task task) = Unit {0}
IsBodyOfTask (Top event) = ⊥
IsBodyOfTask (Bottom event) = ⊥

-- a task is under way: it runs, or has ended, or its unit is open
abbrev pub IsOfTask : Phase → Type 0
IsOfTask Choose = ⊥
IsOfTask (Run cpu left) = IsBodyOfTask cpu.body
IsOfTask (End place) = Unit {0}
IsOfTask EndBottom = ⊥

-- In mode split events are served between units: while a task is under way or a unit is open, each
-- posting that waits came after the last commit of a task or transaction.
pub record ServesInTurn (program : Program) (s : State) (phase : Phase) (marks : List Mark)
    : Type 0 where
  pub serves : ServesBetweenUnits program marks
  pub same : (settled_of program marks).standing ≡ standing_of program marks
  pub settled : (settled_of program marks).settled ≤ (standing_of program marks).accepted
  pub later : IsOfTask phase ⊎ (has_unit s ≡ true) →
      All (λ held. (settled_of program marks).settled < held.number)
      (standing_of program marks).rest

-- Behind an abort nothing of tasks is under way until its event is committed, which is the oldest.
pub record Awaits (program : Program) (s : State) (phase : Phase) (marks : List Mark)
    (posting : ℕ) : Type 0 where
  pub mode : mode s ≡ 1
  pub chooses : phase ≡ Choose
  pub no_unit : has_unit s ≡ false
  pub due : IsDue (rest_of program marks) posting

-- events and tasks take turns, as the mode says
pub record TakeTurns (program : Program) (s : State) (phase : Phase) (marks : List Mark)
    : Type 0 where
  pub split : mode s ≡ 0 → ServesInTurn program s phase marks
  pub buffi : mode s ≡ 1 → ServesAtOnce program marks
  pub aborts : ServesAborts marks
  pub awaits : (posting : ℕ) → awaited_of marks ≡ Some posting →
      Awaits program s phase marks posting

-- what a device keeps, where no mark is later than this
pub record IsSoundBy (terms : Terms) (code : Bodies) (periods : List ℕ) (at : ℕ) (d : Device)
    : Type 0 where
  pub fit : IsFit terms.program code d.image (reads_of d) d.phase
      (standing_of terms.program d.history.marks)
  pub mode : mode (state d.image) ≡ mode_word terms.mode
  pub events : EventsFit terms.program (state d.image)
      (standing_of terms.program d.history.marks) d.waiting.events
  pub legal : IsLegalBy terms d.history at
  pub turns : TakeTurns terms.program (state d.image) d.phase d.history.marks
  pub accepted : (standing_of terms.program d.history.marks).accepted ≡ d.accepted
  pub timed : IsTimed periods d.clock d.boots d.until
  pub boots : AreBootsTold periods d.boots terms.program d.history

abbrev pub IsSound : Terms → Bodies → List ℕ → Device → Type 0
IsSound terms code periods d = IsSoundBy terms code periods d.clock d
