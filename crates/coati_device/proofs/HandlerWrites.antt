-- What a handler writes keeps all that memory stands for. The parts of a posting and the log of
-- its event go into the entry at the tail, which is nobody's yet; the write that accepts the
-- posting makes it the newest of those that wait.
use Rattle.std.proofs.Common.{◌≡◌, ◌≢◌, ℕ, zero, suc, ◌+◌, ◌-◌, ◌<◌, ◌≤◌, ◌==◌, List, [], ◌∷◌, ◌++◌, Bool, true, false, Option, Some, None, if◌then◌else◌, refl, sym, ap, subst, ◌∙◌, arith, length, take, append-nil, length-append}
use Rattle.std.specs.Prelude.{slice_get, slice_index}
use Rattle.coati_word.specs.declared.ending.Ending.{Ending}
use Rattle.coati_word.specs.declared.reading.Reading.{Reading}
use Rattle.task_syntax.specs.CourseLaws.{CoursesUnderWayGoOn}
use Rattle.task_syntax.specs.Names.{tasks}
use Rattle.task_syntax.specs.declared.program.Program.{Program}
use Rattle.nv_memory.specs.declared.log.Log.{Log}
use Rattle.nv_memory.specs.declared.log.Log.TheVariants as log
use Rattle.nv_memory.specs.InRange.{InRange, IsRing}
use Rattle.nv_memory.specs.Logs.{entry_log, length_in, log_index, log_length, seats_of}
use Rattle.nv_memory.specs.Ring.{Entry, entry_at, held_count, held_entries, oldest, slot_of, slots_from}
use Rattle.nv_memory.specs.Seats.{IsMemory, Memory, Seat}
use Rattle.nv_memory.specs.StandsFor.{committed_word, head_slot}
use Rattle.nv_memory.specs.State.{Change, State, put, set_to, state}
use Rattle.nv_memory.specs.Words.{head, mark, mode, tail, tail_seat}
use Rattle.nv_memory.proofs.Frames.{header_apart}
use Rattle.nv_memory.proofs.Held.{tail_slot_is_free}
use Rattle.nv_memory.proofs.Looks.{test_other}
use Rattle.nv_memory.proofs.LogWrites.{LiesApart, value_beside}
use Rattle.task_buffer.specs.Stores.{IsBegun, change_at, part_change, store_change}
use Rattle.event_buffer.specs.Fill.{HasPosting, IsFilled, fill_change, is_full, tail_slot, word_change}
use Rattle.event_buffer.specs.FillLaws.{AllPartsAreThePosting, PartsFillTheSlot, TailEntryIsFree}
use Rattle.event_buffer.specs.Keeps.{KeepsBesideEntry, KeepsHeld, KeepsSound}
use Rattle.event_buffer.specs.TurnLaws.{Accepts, AcceptsAddTheNewest, accept_change}
use Rattle.event_buffer.proofs.Slots.{held_length}
use Rattle.commit_log.specs.OpenUnit.{KeepsUnit}
use Rattle.serial_log.specs.SerialRun.{Stand}
use Rattle.serial_log.specs.Standing.{Standing}
use Rattle.serial_log.specs.declared.held.Held.{Held}
use Rattle.word_code.specs.Code.{Bodies}
use Rattle.coati_device.specs.declared.device.Phase.{Phase}
use Rattle.coati_device.specs.Attempt.{IsAttempt}
use Rattle.coati_device.specs.HeldEvents.{EventsFit, HoldsEvent}
use Rattle.coati_device.specs.OpenUnit.{IsUnitPlace, OpenUnitFits, has_unit}
use Rattle.coati_device.specs.Points.{AreHeld, AreLastAccepted, AreNumberedFrom, IsEntryOf, IsFit, IsMemoryOf, Reads, StandsFor, message_to}
use Rattle.coati_device.specs.Raises.{waits_held}
use Rattle.coati_device.specs.TaskView.{HasWritten}
use Rattle.coati_device.specs.Waits.{Waits}
use Rattle.coati_device.proofs.AcceptedEvents.{behind_events, events_held, events_left}
use Rattle.coati_device.proofs.LeftAttempts.{LeavesAttempts, SameLog, attempt_left}
use Rattle.coati_device.proofs.OpenUnits.{open_unit_kept}
use Rattle.coati_device.proofs.TaskWrites.{IsPut, put_by}

-- a store under way in a log of which no seat is written
begun_beside : (s : State) (own : Log) (seat : Seat) (given : ℕ) → LiesApart (seats_of own) seat
    → (word value part : ℕ)
    → IsBegun s own word value part → IsBegun (put s (set_to seat given)) own word value part
begun_beside s own seat given lies word value zero begun = tt
begun_beside s own seat given lies word value (suc zero) begun = (
  value_beside s (seats_of own) seat given lies word ∙ begun.0,
  rw (lies.length, lies.number (length_in s (seats_of own))) begun.1,
)
begun_beside s own seat given lies word value (suc (suc part)) begun = (
  value_beside s (seats_of own) seat given lies word ∙ begun.0,
  rw (lies.length, lies.number (length_in s (seats_of own))) begun.1,
  rw (lies.length, lies.value (length_in s (seats_of own))) begun.2,
)

same_log : (s : State) (own : Log) (seat : Seat) (given : ℕ) → LiesApart (seats_of own) seat
    → SameLog s (put s (set_to seat given)) own
same_log s own seat given lies = record {
  values = value_beside s (seats_of own) seat given lies;
  begun = begun_beside s own seat given lies;
}

both_other : (own slot : ℕ) (same_part same_at : Bool) → own ≢ slot
    → (if same_part then (if same_at then own == slot else false) else false) ≡ false
both_other own slot true true other = test_other own slot other
both_other own slot true false other = refl
both_other own slot false same_at other = refl

-- a write to an entry, where the entry isn't the oldest held one
module _ (s : State) (slot part at given : ℕ) where
  abbrev entered : State
  entered = put s (set_to (Seat.Entry slot part at) given)

  entry_apart : (own : ℕ) → own ≢ slot → LiesApart (entry_log own) (Seat.Entry slot part at)
  entry_apart own other = record {
    length = both_other own slot (0 == part) (1 == at) other;
    number = λ i. both_other own slot (1 == part) (i == at) other;
    value = λ i. both_other own slot (2 == part) (i == at) other;
  }

  leaves_at_entry : (mark s ≡ 0 → 0 < held_count s → head_slot s ≢ slot)
      → ((word : ℕ) → committed_word entered word ≡ committed_word s word)
      → LeavesAttempts s entered
  leaves_at_entry other committed = record {
    words = refl;
    slots = refl;
    same_mark = refl;
    same_current = refl;
    same_next = refl;
    same_opened = refl;
    same_head = refl;
    same_doomed = refl;
    same_mode = refl;
    variables = λ word. refl;
    attempt_flags = λ word. refl;
    tx_flags = λ word. refl;
    committed = committed;
    task_log =
        same_log s log.Task (Seat.Entry slot part at) given
        (record { length = refl; number = λ i. refl; value = λ i. refl });
    tx_log =
        same_log s log.Tx (Seat.Entry slot part at) given
        (record { length = refl; number = λ i. refl; value = λ i. refl });
    oldest_log = λ clear some.
        same_log s (log.Entry (head_slot s)) (Seat.Entry slot part at) given
        (entry_apart (head_slot s) (other clear some));
    held = omega arith;
  }

-- the write that accepts
leaves_at_tail : (s : State) → Accepts s (put s (accept_change s))
    → LeavesAttempts s (put s (accept_change s))
leaves_at_tail s accepts =
    let t : State = put s (accept_change s) in
    let more : length (held_entries t) ≡ length (held_entries s) + 1 =
    ap length accepts.held ∙ length-append (held_entries s) (entry_at s (tail_slot s) ∷ []) in
    let before = held_length s in
    let later = held_length t in
    let same : (own : Log) → SameLog s t own =
    λ own. same_log s own tail_seat _ (header_apart own 8 (omega arith) (omega arith)) in
    record {
      words = refl;
      slots = refl;
      same_mark = refl;
      same_current = refl;
      same_next = refl;
      same_opened = refl;
      same_head = refl;
      same_doomed = refl;
      same_mode = refl;
      variables = λ word. refl;
      attempt_flags = λ word. refl;
      tx_flags = λ word. refl;
      committed = accepts.committed.words;
      task_log = same log.Task;
      tx_log = same log.Tx;
      oldest_log = λ clear some. same (log.Entry (head_slot s));
      held = omega (arith, more, before, later);
    }

-- a change of a word of an entry
pub record IsOfEntry (slot : ℕ) (change : Change) : Type 0 where
  pub part : ℕ
  pub at : ℕ
  pub given : ℕ
  pub is : change ≡ set_to (Seat.Entry slot part at) given

word_of_entry : (slot i : ℕ) (word : Option ℕ) → IsOfEntry slot (word_change slot i word)
word_of_entry slot i (Some word) = record { part = 0; at = 2 + i; given = word; is = refl }
word_of_entry slot i None = record { part = 0; at = 1; given = 0; is = refl }

-- a part of a posting is one
part_of_entry : (slot event : ℕ) (message : List ℕ) (part : ℕ)
    → IsOfEntry slot (fill_change slot event message part)
part_of_entry slot event message zero = record { part = 0; at = 0; given = event; is = refl }
part_of_entry slot event message (suc i) = word_of_entry slot i (slice_get message i)

new_of_entry : (s : State) (slot word value part : ℕ)
    → IsOfEntry slot (part_change s (log.Entry slot) word value part)
new_of_entry s slot word value zero =
    record { part = 1; at = log_length s (log.Entry slot); given = word; is = refl }
new_of_entry s slot word value (suc zero) =
    record { part = 2; at = log_length s (log.Entry slot); given = value; is = refl }
new_of_entry s slot word value (suc (suc more)) =
    record { part = 0; at = 1; given = log_length s (log.Entry slot) + 1; is = refl }

found_of_entry : (s : State) (slot word value part : ℕ) (found : Option ℕ)
    → IsOfEntry slot (change_at s (log.Entry slot) word value part found)
found_of_entry s slot word value part (Some i) =
    record { part = 2; at = i; given = value; is = refl }
found_of_entry s slot word value part None = new_of_entry s slot word value part

-- and so is a part of a store into its log
pub store_of_entry : (s : State) (slot word value part : ℕ)
    → IsOfEntry slot (store_change s (log.Entry slot) word value part)
store_of_entry s slot word value part =
    found_of_entry s slot word value part (log_index s (log.Entry slot) word)

first_slot : (k from count : ℕ) → 0 < count
    → slice_index (slots_from k from count) 0 ≡ slot_of k from
first_slot k from zero some = absurd (omega arith)
first_slot k from (suc count) some = refl

-- the entry at the tail isn't the oldest held one
tail_is_other : (s : State) → IsRing s → mark s ≡ 0 → 0 < held_count s → head_slot s ≢ tail_slot s
tail_is_other s ring clear some same =
    let oldest_is : oldest s ≡ head s = rw clear refl in
    tail_slot_is_free s 0 ring some
    (first_slot s.k (oldest s) (held_count s) some ∙ ap (slot_of s.k) oldest_is ∙ same)

unit_left : (s t : State) → LeavesAttempts s t → KeepsUnit s t
unit_left s t leaves = record {
  log = λ word. rw (leaves.same_mark, leaves.task_log.values word, leaves.tx_log.values word) refl;
  flags = λ word low. rw (leaves.same_mark, leaves.tx_flags word, leaves.attempt_flags word) refl;
  next = rw (leaves.same_mark, leaves.same_next, leaves.same_current) refl;
}

has_unit_left : (s t : State) → LeavesAttempts s t → has_unit t ≡ has_unit s
has_unit_left s t leaves = rw (leaves.same_mark, leaves.same_doomed, leaves.same_opened) refl

-- what a step of a handler makes of memory: the entry at the tail alone is another
pub record TouchesTail (m new : Memory) : Type 0 where
  pub memory : IsMemory new
  pub words : new.n ≡ m.n
  pub slots : new.k ≡ m.k
  pub leaves : LeavesAttempts (state m) (state new)
  pub beside : KeepsBesideEntry (tail_slot (state m)) (state m) (state new)
  pub held : KeepsHeld (state m) (state new)
  pub sound : KeepsSound (state m) (state new)

leaves_itself : (s : State) → LeavesAttempts s s
leaves_itself s =
    let same : (own : Log) → SameLog s s own = λ own. record {
      values = λ word. refl;
      begun = λ word value part begun. begun;
    } in
    record {
      words = refl;
      slots = refl;
      same_mark = refl;
      same_current = refl;
      same_next = refl;
      same_opened = refl;
      same_head = refl;
      same_doomed = refl;
      same_mode = refl;
      variables = λ word. refl;
      attempt_flags = λ word. refl;
      tx_flags = λ word. refl;
      committed = λ word. refl;
      task_log = same log.Task;
      tx_log = same log.Tx;
      oldest_log = λ clear some. same (log.Entry (head_slot s));
      held = omega arith;
    }

keeps_itself : (slot : ℕ) (s : State) → KeepsBesideEntry slot s s
keeps_itself slot s = record {
  words = refl;
  slots = refl;
  same_mark = refl;
  same_current = refl;
  same_next = refl;
  same_opened = refl;
  same_head = refl;
  same_head_next = refl;
  same_tail = refl;
  same_doomed = refl;
  same_first = refl;
  same_mode = refl;
  variables = λ word. refl;
  attempt_flags = λ word. refl;
  tx_flags = λ word. refl;
  entries = λ other differs. refl;
  logs = λ other differs word. refl;
}

-- nothing is written
pub touches_none : (m : Memory) → IsMemory m → InRange (state m) → TouchesTail m m
touches_none m memory range = record {
  memory = memory;
  words = refl;
  slots = refl;
  leaves = leaves_itself (state m);
  beside = keeps_itself (tail_slot (state m)) (state m);
  held = record {
    same = record { words = λ word. refl; place = refl; held = refl };
    slots = refl;
    logs = λ i low word. refl;
  };
  sound = record { range = range; places = λ tasks places. places; closed = λ closed. closed };
}

-- a word of the entry at the tail is
pub touches_by : TailEntryIsFree → (m new : Memory) (change : Change) → InRange (state m)
    → is_full (state m) ≡ false → IsOfEntry (tail_slot (state m)) change → IsPut m change new
    → KeepsBesideEntry (tail_slot (state m)) (state m) (put (state m) change)
    → KeepsSound (state m) (put (state m) change) → TouchesTail m new
touches_by free m new change range room of wrote beside sound =
    let s = state m in
    let slot = tail_slot s in
    let keeps = free s (put s change) range room beside in
    let words : (word : ℕ)
    → committed_word (entered s slot of.part of.at of.given) word ≡ committed_word s word =
    subst (λ (c : Change). (word : ℕ) → committed_word (put s c) word ≡ committed_word s word)
    of.is keeps.same.words in
    let leaves : LeavesAttempts s (put s change) =
    subst (λ (c : Change). LeavesAttempts s (put s c)) (sym of.is)
    (leaves_at_entry s slot of.part of.at of.given (tail_is_other s range.ring) words) in
    let back = sym wrote.state in
    record {
      memory = wrote.memory;
      words = wrote.words;
      slots = wrote.slots;
      leaves = subst (LeavesAttempts s) back leaves;
      beside = subst (KeepsBesideEntry slot s) back beside;
      held = subst (KeepsHeld s) back keeps;
      sound = subst (KeepsSound s) back sound;
    }

-- the tail stays
pub tail_stays : (slot : ℕ) (s t : State) → KeepsBesideEntry slot s t
    → tail_slot t ≡ tail_slot s
tail_stays slot s t beside =
    ap (λ (k : ℕ). slot_of k (tail t)) beside.slots ∙ ap (slot_of s.k) beside.same_tail

memory_left : (program : Program) (m new : Memory) → IsMemoryOf program m → IsMemory new
    → new.n ≡ m.n → new.k ≡ m.k → KeepsSound (state m) (state new)
    → mode (state new) ≡ mode (state m) → IsMemoryOf program new
memory_left program m new memory is words slots sound same = record {
  memory = is;
  words = words ∙ memory.words;
  slots = slots ∙ memory.slots;
  range = sound.range;
  places = sound.places (length (tasks program)) memory.places;
  closed = sound.closed memory.closed;
  mode = subst (λ (found : ℕ). found < 2) (sym same) memory.mode;
}

-- a write that leaves the attempts, where more postings wait maybe
fit_left : CoursesUnderWayGoOn Ending → (program : Program) (code : Bodies) (reads : Reads)
    (phase : Phase) (m new : Memory) (standing later : Standing) (more : List Held)
    → later.run ≡ standing.run → later.rest ≡ standing.rest ++ more
    → IsFit program code m reads phase standing → IsMemoryOf program new
    → LeavesAttempts (state m) (state new) → StandsFor program (state new) later
    → AreLastAccepted later → IsFit program code new reads phase later
fit_left goes_on program code reads phase m new standing later more run rest fit memory leaves
    stands waiting = record {
      memory = memory;
      stands = stands;
      waiting = waiting;
      place = subst (λ (stand : Stand). IsUnitPlace program stand.place) (sym run) fit.place;
      unit =
          subst (λ (stand : Stand). OpenUnitFits program (state new) stand reads.unit
          reads.finished) (sym run)
          (open_unit_kept program (state m) (state new) standing.run reads.unit reads.finished
          (record {
            unit = unit_left (state m) (state new) leaves;
            open_same = has_unit_left (state m) (state new) leaves;
            mode_same = leaves.same_mode;
            words_same = leaves.words;
          }) fit.unit);
      attempt =
          subst (λ (held : List Held). IsAttempt program code new held reads.attempt phase)
          (sym rest)
          (attempt_left goes_on program code m new leaves standing.rest more reads.attempt phase
          fit.attempt);
    }

-- what a handler finds
pub record Around : Type 0 where
  pub program : Program
  pub code : Bodies
  pub reads : Reads
  pub phase : Phase
  -- whether a unit is open, and the mode
  pub opened : Bool
  pub mode : ℕ

-- memory fits, with these kept readings of held events, and a unit is open or not
pub record IsStill (around : Around) (standing : Standing) (kept : List (List Reading))
    (m : Memory) : Type 0 where
  pub fit : IsFit around.program around.code m around.reads around.phase standing
  pub unit : has_unit (state m) ≡ around.opened
  pub mode : mode (state m) ≡ around.mode
  pub events : EventsFit around.program (state m) standing kept

-- and there is room for an entry more
pub record HasRoom (around : Around) (standing : Standing) (events : List (List Reading))
    (m : Memory) : Type 0 where
  pub still : IsStill around standing events m
  pub room : is_full (state m) ≡ false

-- the parts of a posting before this one stand in the entry at the tail
pub record IsOpen (around : Around) (standing : Standing) (events : List (List Reading))
    (event : ℕ) (message : List ℕ) (part : ℕ) (m : Memory) : Type 0 where
  pub has_room : HasRoom around standing events m
  pub filled : IsFilled (state m) (tail_slot (state m)) event message part

-- an entry has the event and the message of a posting
pub record HasWords (entry : Entry) (event : ℕ) (message : List ℕ) : Type 0 where
  pub same_event : entry.event ≡ event
  pub words : take (length message) entry.message ≡ message

-- all of them stand there, whatever its log has
pub record IsWhole (around : Around) (standing : Standing) (events : List (List Reading))
    (event : ℕ) (message : List ℕ) (m : Memory) : Type 0 where
  pub has_room : HasRoom around standing events m
  pub entry : HasWords (entry_at (state m) (tail_slot (state m))) event message

module _ (goes_on : CoursesUnderWayGoOn Ending) (around : Around) (standing : Standing)
    (events : List (List Reading)) (m new : Memory) where
  still_touched : TouchesTail m new → IsStill around standing events m
      → IsStill around standing events new
  still_touched touches still =
      let fit = still.fit in
      let program = around.program in
      let same = touches.held.same in
      record {
        fit =
            fit_left goes_on program around.code around.reads around.phase m new standing standing
            [] refl (sym (append-nil standing.rest)) fit
            (memory_left program m new fit.memory touches.memory touches.words touches.slots
            touches.sound touches.leaves.same_mode)
            touches.leaves
            (record {
              words = λ word. same.words word ∙ fit.stands.words word;
              place = same.place ∙ fit.stands.place;
              held =
                  subst (λ (entries : List Entry). AreHeld program entries standing.rest)
                  (sym same.held) fit.stands.held;
            }) fit.waiting;
        unit = has_unit_left (state m) (state new) touches.leaves ∙ still.unit;
        mode = touches.leaves.same_mode ∙ still.mode;
        events =
            events_left program (state m) (state new) standing events touches.leaves.same_mode
            touches.held still.events;
      }

  pub room_touched : TouchesTail m new → HasRoom around standing events m
      → HasRoom around standing events new
  room_touched touches here =
      let s = state m in
      let t = state new in
      record {
        still = still_touched touches here.still;
        room =
            ap (λ (entries : List Entry). length entries == t.k) touches.held.same.held
            ∙ ap (λ (k : ℕ). length (held_entries s) == k) touches.beside.slots
            ∙ here.room;
      }

-- the entries of postings, and one more
held_more : (program : Program) (entries : List Entry) (rest : List Held) (entry : Entry)
    (held : Held)
    → AreHeld program entries rest → IsEntryOf program entry held
    → AreHeld program (entries ++ entry ∷ []) (rest ++ held ∷ [])
held_more program [] [] entry held are is = (is, tt)
held_more program [] (first ∷ rest) entry held are is = absurd are
held_more program (first ∷ entries) [] entry held are is = absurd are
held_more program (first ∷ entries) (oldest ∷ rest) entry held are is =
    (are.0, held_more program entries rest entry held are.1 is)

-- postings numbered one by one, and one more
numbered_more : (number : ℕ) (rest : List Held) (held : Held) → AreNumberedFrom number rest
    → held.number ≡ number + length rest → AreNumberedFrom number (rest ++ held ∷ [])
numbered_more number [] held are is = (omega arith, tt)
numbered_more number (first ∷ rest) held are is =
    (are.0, numbered_more (number + 1) rest held are.1 (omega arith))

pub waiting_more : (standing later : Standing) (held : Held)
    → later.rest ≡ standing.rest ++ held ∷ []
    → later.accepted ≡ standing.accepted + 1 → held.number ≡ standing.accepted + 1
    → AreLastAccepted standing
    → AreLastAccepted later
waiting_more standing later held rest accepted number waiting =
    let few = waiting.few in
    let longer : length later.rest ≡ length standing.rest + 1 =
    ap length rest ∙ length-append standing.rest (held ∷ []) in
    let first : ℕ = standing.accepted + 1 - length standing.rest in
    let same : first ≡ later.accepted + 1 - length later.rest =
    omega (arith, longer, accepted, few) in
    let last : held.number ≡ first + length standing.rest = omega (arith, number, few) in
    record {
      few = omega (arith, longer, accepted, few);
      numbered =
          subst (λ (from : ℕ). AreNumberedFrom from later.rest) same
          (subst (AreNumberedFrom first) (sym rest)
          (numbered_more first standing.rest held waiting.numbered last));
    }

module _ (goes_on : CoursesUnderWayGoOn Ending) (around : Around) (standing : Standing)
    (events : List (List Reading)) (event : ℕ) (message : List ℕ) (m new : Memory) where
  -- a part more
  pub fill_keeps : PartsFillTheSlot → TailEntryIsFree → (part : ℕ)
      → IsOpen around standing events event message part m
      → HasWritten m (fill_change (tail_slot (state m)) event message part) new
      → IsOpen around standing events event message (part + 1) new
  fill_keeps parts free part here writes =
      let s = state m in
      let slot = tail_slot s in
      let change = fill_change slot event message part in
      let memory = here.has_room.still.fit.memory in
      let wrote = put_by m new change memory.memory writes in
      let fills = parts s slot event message part memory.range here.filled in
      let touches =
      touches_by free m new change memory.range here.has_room.room
      (part_of_entry slot event message part) wrote fills.beside fills.sound in
      record {
        has_room = room_touched goes_on around standing events m new touches here.has_room;
        filled =
            subst (λ (t : State). IsFilled t (tail_slot t) event message (part + 1))
            (sym wrote.state)
            (subst (λ (at : ℕ). IsFilled (put s change) at event message (part + 1))
            (sym (tail_stays slot s (put s change) fills.beside)) fills.filled);
      }

  -- an entry stays whole where its log alone is another
  pub whole_touched : TouchesTail m new
      → entry_at (state new) (tail_slot (state m)) ≡ entry_at (state m) (tail_slot (state m))
      → IsWhole around standing events event message m
      → IsWhole around standing events event message new
  whole_touched touches same here =
      let s = state m in
      let t = state new in
      record {
        has_room = room_touched goes_on around standing events m new touches here.has_room;
        entry =
            subst (λ (at : ℕ). HasWords (entry_at t at) event message)
            (sym (tail_stays (tail_slot s) s t touches.beside))
            (subst (λ (entry : Entry). HasWords entry event message) (sym same) here.entry);
      }

-- behind the last part the entry is whole
module _ (all : AllPartsAreThePosting) (around : Around) (standing : Standing)
    (events : List (List Reading)) (event : ℕ) (message : List ℕ) (m : Memory)
    (short : length message ≤ 4)
    (here : IsOpen around standing events event message (length message + 2) m) where
  pub all_filled : HasPosting (state m) (tail_slot (state m)) event message
  all_filled = all (state m) (tail_slot (state m)) event message short here.filled

  pub whole_filled : IsWhole around standing events event message m
  whole_filled = record {
    has_room = here.has_room;
    entry = record { same_event = all_filled.same_event; words = all_filled.words };
  }

-- the posting that is accepted, and where the history leads with it
pub record IsNewest (standing later : Standing) (held : Held) (program : Program) (event : ℕ)
    (message : List ℕ) : Type 0 where
  pub run : later.run ≡ standing.run
  pub rest : later.rest ≡ standing.rest ++ held ∷ []
  pub accepted : later.accepted ≡ standing.accepted + 1
  pub number : held.number ≡ standing.accepted + 1
  pub known : held.event < length program.events
  pub is_event : held.event ≡ event
  pub is_message : message_to program held ≡ message

module _ (goes_on : CoursesUnderWayGoOn Ending) (adds : AcceptsAddTheNewest) (around : Around)
    (standing later : Standing) (waits : Waits) (held : Held) (event : ℕ) (message : List ℕ)
    (m new : Memory) (newest : IsNewest standing later held around.program event message)
    (here : IsWhole around standing waits.events event message m)
    (writes : HasWritten m (accept_change (state m)) new) where
  abbrev newly : State
  newly = put (state m) (accept_change (state m))

  accepts_here : Accepts (state m) newly
  accepts_here = adds (state m) here.has_room.still.fit.memory.range here.has_room.room

  stands_more : StandsFor around.program newly later
  stands_more =
      let s = state m in
      let stands = here.has_room.still.fit.stands in
      let entry : Entry = entry_at s (tail_slot s) in
      let is : IsEntryOf around.program entry held = record {
        known = newest.known;
        event = here.entry.same_event ∙ sym newest.is_event;
        message =
            subst (λ (words : List ℕ). take (length words) entry.message ≡ words)
            (sym newest.is_message) here.entry.words;
      } in
      record {
        words =
            λ word. accepts_here.committed.words word ∙ stands.words word
            ∙ ap (λ (stand : Stand). stand.store word) (sym newest.run);
        place =
            accepts_here.committed.place ∙ stands.place
            ∙ ap (λ (stand : Stand). stand.place) (sym newest.run);
        held =
            subst (λ (entries : List Entry). AreHeld around.program entries later.rest)
            (sym accepts_here.held)
            (subst (λ (postings : List Held).
            AreHeld around.program (held_entries s ++ entry ∷ []) postings)
            (sym newest.rest)
            (held_more around.program (held_entries s) standing.rest entry held stands.held is));
      }

  -- the posting is accepted: in buffi its event is held with what it has read
  pub accept_keeps :
      (mode (state m) ≡ 1 → HoldsEvent around.program (state m) (tail_slot (state m)) held
      waits.made (behind_events around.program standing.rest standing.run.store))
      → IsStill around later (waits_held (state m) waits).events new
  accept_keeps ran =
      let s = state m in
      let still = here.has_room.still in
      let fit = still.fit in
      let program = around.program in
      let wrote = put_by m new (accept_change s) fit.memory.memory writes in
      let back = sym wrote.state in
      let leaves = subst (LeavesAttempts s) back (leaves_at_tail s accepts_here) in
      record {
        fit =
            fit_left goes_on program around.code around.reads around.phase m new standing later
            (held ∷ []) newest.run newest.rest fit
            (memory_left program m new fit.memory wrote.memory wrote.words wrote.slots
            (subst (KeepsSound s) back accepts_here.sound) leaves.same_mode)
            leaves
            (subst (λ (t : State). StandsFor program t later) back stands_more)
            (waiting_more standing later held newest.rest newest.accepted newest.number
            fit.waiting);
        unit = has_unit_left s (state new) leaves ∙ still.unit;
        mode = leaves.same_mode ∙ still.mode;
        events =
            subst (λ (t : State). EventsFit program t later (waits_held s waits).events) back
            (events_held program s newly standing later held (tail_slot s) refl
            accepts_here.slots (λ one word. accepts_here.logs.logs (log.Entry one) word)
            newest.run newest.rest waits still.events ran);
      }
