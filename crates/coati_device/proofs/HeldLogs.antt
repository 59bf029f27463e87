-- The held events stay what they are where a write leaves the mode, the slots of the held entries
-- and the logs of all entries.
use Rattle.std.proofs.Common.{◌≡◌, ℕ, List, [], ◌∷◌, refl, sym, subst, ◌∙◌}
use Rattle.coati_word.specs.declared.reading.Reading.{Reading}
use Rattle.task_syntax.specs.declared.program.Program.{Program}
use Rattle.task_syntax.specs.Course.{Store, after}
use Rattle.serial_log.specs.declared.held.Held.{Held}
use Rattle.serial_log.specs.Standing.{Standing}
use Rattle.nv_memory.specs.Ring.{held_slots}
use Rattle.nv_memory.specs.Seats.{IsMemory, Memory}
use Rattle.nv_memory.specs.State.{Change, State, put, state}
use Rattle.nv_memory.specs.Words.{mode}
use Rattle.buffi_sets.specs.View.{entry_value}
use Rattle.coati_device.specs.HeldEvents.{EventsFit, HoldEvents, HoldsEvent, effect_on}
use Rattle.coati_device.specs.TaskView.{HasWritten}
use Rattle.coati_device.proofs.MemoryWrites.{state_written}

-- the mode stays, and so do the slots of the held entries and the logs of all
pub record KeepsEntries (s t : State) : Type 0 where
  pub same_mode : mode t ≡ mode s
  pub slots : held_slots t ≡ held_slots s
  pub values : (slot word : ℕ) → entry_value t slot word ≡ entry_value s slot word

pub entries_stay : (s : State) → KeepsEntries s s
entries_stay s = record { same_mode = refl; slots = refl; values = λ slot word. refl }

-- where a write is made that leaves them
pub kept_written : (m n : Memory) (change : Change) → IsMemory m → HasWritten m change n →
    KeepsEntries (state m) (put (state m) change) → KeepsEntries (state m) (state n)
kept_written m n change is wrote keeps =
    subst (KeepsEntries (state m)) (sym (state_written m n change is wrote)) keeps

-- events stay in the same logs
pub events_in_logs : (program : Program) (s t : State) →
    ((slot word : ℕ) → entry_value t slot word ≡ entry_value s slot word) →
    (slots : List ℕ) (rest : List Held) (reads : List (List Reading)) (store : Store) →
    HoldEvents program s slots rest reads store → HoldEvents program t slots rest reads store
events_in_logs program s t values [] [] [] store holds = tt
events_in_logs program s t values [] [] (read ∷ reads) store holds = absurd holds
events_in_logs program s t values [] (held ∷ rest) [] store holds = absurd holds
events_in_logs program s t values [] (held ∷ rest) (read ∷ reads) store holds = absurd holds
events_in_logs program s t values (slot ∷ slots) [] [] store holds = absurd holds
events_in_logs program s t values (slot ∷ slots) [] (read ∷ reads) store holds = absurd holds
events_in_logs program s t values (slot ∷ slots) (held ∷ rest) [] store holds = absurd holds
events_in_logs program s t values (slot ∷ slots) (held ∷ rest) (read ∷ reads) store holds = (
  record { log = λ word. values slot word ∙ holds.0.log word; reads = holds.0.reads },
  events_in_logs program s t values slots rest reads
      (after (effect_on program held store) store) holds.1,
)

pub events_stay : (program : Program) (s t : State) (standing : Standing)
    (reads : List (List Reading)) → KeepsEntries s t →
    EventsFit program s standing reads → EventsFit program t standing reads
events_stay program s t standing reads keeps fits = λ buffi.
    subst (λ (slots : List ℕ). HoldEvents program t slots standing.rest reads standing.run.store)
    (sym keeps.slots)
    (events_in_logs program s t keeps.values (held_slots s) standing.rest reads
    standing.run.store (fits (sym keeps.same_mode ∙ buffi)))

-- the oldest held event, and those behind it on what it leaves
pub record HasOldest (program : Program) (s : State) (slot : ℕ) (slots : List ℕ)
    (rest : List Held) (reads : List (List Reading)) (store : Store) : Type 0 where
  pub held : Held
  pub more : List Held
  pub read : List Reading
  pub others : List (List Reading)
  pub first : rest ≡ held ∷ more
  pub first_read : reads ≡ read ∷ others
  pub is : HoldsEvent program s slot held read store
  pub behind : HoldEvents program s slots more others (after (effect_on program held store) store)

pub oldest_of : (program : Program) (s : State) (slot : ℕ) (slots : List ℕ)
    (rest : List Held) (reads : List (List Reading)) (store : Store) →
    HoldEvents program s (slot ∷ slots) rest reads store →
    HasOldest program s slot slots rest reads store
oldest_of program s slot slots [] [] store holds = absurd holds
oldest_of program s slot slots [] (read ∷ reads) store holds = absurd holds
oldest_of program s slot slots (held ∷ rest) [] store holds = absurd holds
oldest_of program s slot slots (held ∷ rest) (read ∷ reads) store holds = record {
  held = held;
  more = rest;
  read = read;
  others = reads;
  first = refl;
  first_read = refl;
  is = holds.0;
  behind = holds.1;
}

-- where no entry is held no posting waits
pub none_held : (program : Program) (s t : State) (rest : List Held)
    (reads : List (List Reading)) (store other : Store) →
    HoldEvents program s [] rest reads store → HoldEvents program t [] rest reads other
none_held program s t [] [] store other holds = tt
none_held program s t [] (read ∷ reads) store other holds = absurd holds
none_held program s t (held ∷ rest) [] store other holds = absurd holds
none_held program s t (held ∷ rest) (read ∷ reads) store other holds = absurd holds
