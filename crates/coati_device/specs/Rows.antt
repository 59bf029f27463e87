-- What one step of the executor does, before its time: the first of these that applies. It writes
-- at most one word of memory.
use Rattle.std.specs.Prelude.{ℕ, ◌+◌, ◌-◌, ◌<◌, ◌≡◌, ◌≢◌, ◌⊎◌, ◌==◌, Bool, List, [], ◌++◌, true, false, Option, None, Some, length, slice_get, take, if◌then◌else◌}
use Rattle.std.specs.Option.{option_map_or}
use Rattle.task_syntax.specs.declared.program.Program.{Program}
use Rattle.task_syntax.specs.declared.program.Event.{Event}
use Rattle.task_syntax.specs.declared.body.BodyId.TheVariants.{Task, Bottom}
use Rattle.task_syntax.specs.Units.{halt, is_inside, place_after, transaction_of}
use Rattle.nv_memory.specs.declared.log.Log.TheVariants as log
use Rattle.nv_memory.specs.Logs.{log_length, seats_of}
use Rattle.nv_memory.specs.Ring.{Entry, entry_at, held_count, position_after}
use Rattle.nv_memory.specs.StandsFor.{head_slot}
use Rattle.nv_memory.specs.Seats.{Memory}
use Rattle.nv_memory.specs.State.{Change, State, first_undone, set_to, state}
use Rattle.nv_memory.specs.Words.{current, doomed, head, head_next, mark, mark_seat, mode, next, next_seat, opened}
use Rattle.event_buffer.specs.TurnLaws.{prepare_change}
use Rattle.buffi_sets.specs.Conflict.{HasNoConflict, IsConflict}
use Rattle.buffi_sets.specs.Flags.{HasNoFlag, unflag_attempt_changes}
use Rattle.buffi_sets.specs.Undo.{doom_change, undo_changes}
use Rattle.commit_log.specs.Changes.{commit_changes}
use Rattle.word_code.specs.Code.{Bodies}
use Rattle.word_cpu.specs.declared.cpu.Cpu.{Cpu}
use Rattle.word_cpu.specs.declared.turn.Turn.{Turn}
use Rattle.word_cpu.specs.declared.turn.Turn.TheVariants.{Went, Storing, Ended}
use Rattle.word_cpu.specs.Turning.{IsStep}
use Rattle.word_cpu.specs.UnderWay.{IsAtStart}
use Rattle.task_cost.specs.Limits.{attempt_bound}
use Rattle.coati_device.specs.declared.device.Device.{Device}
use Rattle.coati_device.specs.declared.device.Phase.{Phase}
use Rattle.coati_device.specs.declared.device.Phase.TheVariants.{Choose, Run, End, EndBottom}
use Rattle.serial_log.specs.declared.mark.MarkKind.TheVariants.{Done}
use Rattle.serial_log.specs.History.{with_mark}
use Rattle.coati_device.specs.BottomView.{bottom_view, head_log}
use Rattle.coati_device.specs.Kept.{adding, after_turn, emptied, unit_of, with_abort, with_commit, with_event}
use Rattle.coati_device.specs.TaskView.{HasWritten, IsAfter, task_view}
use Rattle.coati_device.specs.Ticks.{ticked}
use Rattle.coati_device.specs.Waits.{first_read, without_first}

-- neither a commit nor an undo is under way
pub record IsClear (s : State) : Type 0 where
  pub mark : mark s ≡ 0
  pub doomed : doomed s ≡ 0

-- no event comes before the next task: none is held, or in split a transaction is open
abbrev pub ComesToTasks : State → Type 0
ComesToTasks s = (held_count s ≡ 0) ⊎ ((mode s ≡ 0) × (opened s ≡ 1))

-- no event comes before the end of a task: in split none does, in buffi none is held
abbrev pub ComesToTheEnd : State → Type 0
ComesToTheEnd s = mode s ≡ 1 → held_count s ≡ 0

-- the executor chooses, and a task comes next
pub record Chooses (d : Device) : Type 0 where
  pub phase : d.phase ≡ Choose
  pub clear : IsClear (state d.image)
  pub tasks : ComesToTasks (state d.image)

-- the task to run has ended, and the program goes on at this place
pub record Ends (d : Device) (place : ℕ) : Type 0 where
  pub phase : d.phase ≡ End place
  pub clear : IsClear (state d.image)
  pub tasks : ComesToTheEnd (state d.image)

-- an event comes before the next task, in mode split: one is held, and no transaction is open
pub record ComesToEvents (s : State) : Type 0 where
  pub mode : mode s ≡ 0
  pub closed : opened s ≡ 0
  pub held : 0 < held_count s

-- the executor chooses, and the oldest held posting comes next
pub record ChoosesEvent (d : Device) : Type 0 where
  pub phase : d.phase ≡ Choose
  pub clear : IsClear (state d.image)
  pub events : ComesToEvents (state d.image)

-- the entry at the head, and its message, as many words as its event has parameters
abbrev pub head_entry : State → Entry
head_entry s = entry_at s (head_slot s)

abbrev pub params_of : Program → ℕ → ℕ
params_of program event = option_map_or (λ (declared : Event). length declared.params)
    (slice_get program.events event) 0

abbrev pub head_message : Program → State → List ℕ
head_message program s = take (params_of program (head_entry s).event) (head_entry s).message

-- the bottom half of the oldest held posting has ended
pub record EndsBottom (d : Device) : Type 0 where
  pub phase : d.phase ≡ EndBottom
  pub clear : IsClear (state d.image)
  pub events : ComesToEvents (state d.image)

-- in buffi an event may be committed: no attempt is under way, or it has ended
abbrev pub IsBetween : Phase → Type 0
IsBetween Choose = Unit {0}
IsBetween (Run cpu left) = ⊥
IsBetween (End place) = Unit {0}
IsBetween EndBottom = ⊥

-- an attempt has ended, so what it read counts
abbrev pub has_attempt : Phase → Bool
has_attempt (End place) = true
has_attempt other = false

-- the oldest held posting comes next, in mode buffi, where its bottom half has run already
pub record Drains (d : Device) : Type 0 where
  pub phase : IsBetween d.phase
  pub clear : IsClear (state d.image)
  pub mode : mode (state d.image) ≡ 1
  pub held : 0 < held_count (state d.image)

-- it clashes with no word that the open transaction or the attempt has read
pub record DrainsFreely (d : Device) : Type 0 where
  pub drains : Drains d
  pub free : HasNoConflict (state d.image) (has_attempt d.phase)

-- the number of the oldest held posting: it is as far behind the last accepted one as postings
-- are held
abbrev pub oldest_posting : Device → ℕ
oldest_posting d = d.accepted + 1 - held_count (state d.image)

-- an open transaction is to be undone; a lone attempt has written nothing that stays
abbrev pub abort_change : State → Option Change
abort_change s = if opened s == 1 then Some doom_change else None

-- the finished tasks of a unit that is given up
abbrev pub tasks_given_up : Device → ℕ
tasks_given_up d = if has_attempt d.phase then d.finished + 1 else d.finished

-- the steps that a body makes at most before the one that ends it; an attempt is its start and
-- its body
abbrev pub steps_before_end : Program → ℕ
steps_before_end program = attempt_bound program - 2

-- what a step of the machine in a bottom half makes of the phase, where so many were left
abbrev pub phase_of_bottom : Cpu → (left : ℕ) → Turn → Phase
phase_of_bottom cpu left (Went reading) = Run cpu (left - 1)
phase_of_bottom cpu left Storing = Run cpu (left - 1)
phase_of_bottom cpu left (Ended ending) = EndBottom

-- what a step of the machine makes of the phase, where so many were left
abbrev pub phase_after : Cpu → (left : ℕ) → Turn → Phase
phase_after cpu left (Went reading) = Run cpu (left - 1)
phase_after cpu left Storing = Run cpu (left - 1)
phase_after cpu left (Ended ending) = End (place_after ending)

pub data IsRow (program : Program) (code : Bodies) (old new : Device) : Type 0 where
  -- a commit is under way: its next write
  applies : (change : Change) (image : Memory) →
      first_undone (state old.image) (commit_changes (state old.image)) ≡ Some change →
      HasWritten old.image change image →
      new ≡ record old { image = image } → IsRow program code old new
  -- a transaction is aborted: the next write of its undo
  undoes : (change : Change) (image : Memory) → mark (state old.image) ≡ 0 →
      first_undone (state old.image) (undo_changes (state old.image)) ≡ Some change →
      HasWritten old.image change image →
      new ≡ record old { image = image } → IsRow program code old new
  -- nothing is to do
  sleeps : Chooses old → current (state old.image) ≡ halt → new ≡ old → IsRow program code old new
  -- a log that an attempt before has left is emptied
  empties : (image : Memory) → Chooses old → current (state old.image) ≢ halt →
      0 < log_length (state old.image) log.Task →
      HasWritten old.image (set_to (seats_of log.Task).length 0) image →
      new ≡ record old { image = image } → IsRow program code old new
  -- in buffi a flag that an attempt before has left is taken back
  unflags : (change : Change) (image : Memory) → Chooses old →
      current (state old.image) ≢ halt → log_length (state old.image) log.Task ≡ 0 →
      mode (state old.image) ≡ 1 →
      first_undone (state old.image) (unflag_attempt_changes (state old.image)) ≡ Some change →
      HasWritten old.image change image →
      new ≡ record old { image = image } → IsRow program code old new
  -- the task to run starts
  starts : (cpu : Cpu) → Chooses old → current (state old.image) ≢ halt →
      log_length (state old.image) log.Task ≡ 0 →
      (mode (state old.image) ≡ 1 → HasNoFlag (state old.image)) →
      IsAtStart (Task (current (state old.image))) [] cpu →
      new ≡ record old {
        phase = Run cpu (steps_before_end program);
        attempt = emptied old.attempt;
      } →
      IsRow program code old new
  -- the machine makes a step in the task
  runs : (before after : Cpu) (left : ℕ) (image : Memory) (turn : Turn) →
      old.phase ≡ Run before left →
      before.body ≡ Task (current (state old.image)) → IsClear (state old.image) →
      IsStep task_view code before after old.image image turn →
      new ≡ record old {
        image = image;
        phase = phase_after after left turn;
        attempt = after_turn old.attempt turn;
      } →
      IsRow program code old new
  -- the place behind a task that has ended is written
  prepares : (place : ℕ) (image : Memory) → Ends old place → next (state old.image) ≢ place →
      HasWritten old.image (set_to next_seat place) image → new ≡ record old { image = image } →
      IsRow program code old new
  -- a member of a transaction is done, and the transaction goes on: it is merged
  joins : (place : ℕ) (image : Memory) → Ends old place → next (state old.image) ≡ place →
      is_inside program (current (state old.image)) place ≡ true →
      HasWritten old.image (set_to mark_seat 1) image →
      new ≡ record old {
        image = image;
        history = with_mark old.history (record {
          at = old.clock + 1;
          kind = Done (current (state old.image));
        });
        unit = adding old.unit old.attempt.items;
        finished = old.finished + 1;
        attempt = emptied old.attempt;
        phase = Choose;
      } → IsRow program code old new
  -- a unit is whole: it is committed
  commits : (place : ℕ) (image : Memory) → Ends old place → next (state old.image) ≡ place →
      is_inside program (current (state old.image)) place ≡ false →
      HasWritten old.image (set_to mark_seat 2) image →
      new ≡ record old {
        image = image;
        history = with_commit old.history (unit_of
            (transaction_of program (current (state old.image))) (current (state old.image)))
            (old.finished + 1) (old.unit.items ++ old.attempt.items) (old.clock + 1);
        unit = emptied old.unit;
        finished = 0;
        attempt = emptied old.attempt;
        phase = Choose;
      } → IsRow program code old new
  -- the log that a bottom half before has left in the entry at the head is emptied
  empties_entry : (image : Memory) → ChoosesEvent old →
      0 < log_length (state old.image) (head_log (state old.image)) →
      HasWritten old.image (set_to (seats_of (head_log (state old.image))).length 0) image →
      new ≡ record old { image = image } → IsRow program code old new
  -- the bottom half of the oldest held posting starts on its message
  starts_bottom : (cpu : Cpu) → ChoosesEvent old →
      log_length (state old.image) (head_log (state old.image)) ≡ 0 →
      IsAtStart (Bottom (head_entry (state old.image)).event)
      (head_message program (state old.image)) cpu →
      new ≡ record old {
        phase = Run cpu (steps_before_end program);
        attempt = emptied old.attempt;
      } →
      IsRow program code old new
  -- the machine makes a step in the bottom half
  runs_bottom : (before after : Cpu) (left : ℕ) (image : Memory) (turn : Turn) →
      old.phase ≡ Run before left →
      before.body ≡ Bottom (head_entry (state old.image)).event → IsClear (state old.image) →
      ComesToEvents (state old.image) →
      IsStep bottom_view code before after old.image image turn →
      new ≡ record old {
        image = image;
        phase = phase_of_bottom after left turn;
        attempt = after_turn old.attempt turn;
      } →
      IsRow program code old new
  -- the position behind the head is written
  prepares_event : (image : Memory) → EndsBottom old →
      head_next (state old.image) ≢ position_after old.image.k (head (state old.image)) →
      HasWritten old.image (prepare_change (state old.image)) image →
      new ≡ record old { image = image } →
      IsRow program code old new
  -- the event is committed
  commits_event : (image : Memory) → EndsBottom old →
      head_next (state old.image) ≡ position_after old.image.k (head (state old.image)) →
      HasWritten old.image (set_to mark_seat 3) image →
      new ≡ record old {
        image = image;
        history = with_event old.history (head_entry (state old.image)).event
            (oldest_posting old) old.attempt.items (old.clock + 1);
        attempt = emptied old.attempt;
        phase = Choose;
      } → IsRow program code old new
  -- in buffi the oldest held event writes what the unit has read: the unit is given up
  aborts : (word : ℕ) (image : Memory) → Drains old →
      IsConflict (state old.image) (has_attempt old.phase) word →
      IsAfter old.image (abort_change (state old.image)) image →
      new ≡ record old {
        image = image;
        history = with_abort old.history (unit_of
            (transaction_of program (current (state old.image))) (current (state old.image)))
            (tasks_given_up old) (oldest_posting old) word (old.clock + 1);
        unit = emptied old.unit;
        finished = 0;
        attempt = emptied old.attempt;
        phase = Choose;
      } → IsRow program code old new
  -- the position behind the head is written
  prepares_drain : (image : Memory) → DrainsFreely old →
      head_next (state old.image) ≢ position_after old.image.k (head (state old.image)) →
      HasWritten old.image (prepare_change (state old.image)) image →
      new ≡ record old { image = image } →
      IsRow program code old new
  -- the event is committed, with what it read in its handler
  drains : (image : Memory) → DrainsFreely old →
      head_next (state old.image) ≡ position_after old.image.k (head (state old.image)) →
      HasWritten old.image (set_to mark_seat 3) image →
      new ≡ record old {
        image = image;
        history = with_event old.history (head_entry (state old.image)).event
            (oldest_posting old) (first_read old.waiting.events) (old.clock + 1);
        waiting = without_first old.waiting;
      } → IsRow program code old new

-- a step of the executor: a row, and its time
pub record IsStepOf (program : Program) (code : Bodies) (periods : List ℕ) (old new : Device)
    : Type 0 where
  pub acted : Device
  pub row : IsRow program code old acted
  pub time : new ≡ ticked periods (record acted { steps = acted.steps + 1 })
