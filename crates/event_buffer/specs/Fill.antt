-- How the next posting comes into the ring: its parts are written into the slot at the tail, and
-- then it is accepted.
use Rattle.std.specs.Prelude.{ℕ, zero, suc, ◌+◌, ◌==◌, ◌<◌, ◌≡◌, Bool, List, length, slice_get, take, Option, Some, None}
use Rattle.nv_memory.specs.declared.log.Log.TheVariants as log
use Rattle.nv_memory.specs.State.{Change, State, set_to}
use Rattle.nv_memory.specs.Words.{tail}
use Rattle.nv_memory.specs.Logs.{IsEmpty, entry_log, log_length}
use Rattle.nv_memory.specs.Ring.{entry_at, event_seat, held_entries, message_seat, message_word, slot_of}

-- as many postings are held as there is room for
abbrev pub is_full : State → Bool
is_full s = length (held_entries s) == s.k

-- the slot of the next posting
abbrev pub tail_slot : State → ℕ
tail_slot s = slot_of s.k (tail s)

-- a message word, or behind the last one the length of the log
abbrev pub word_change : (slot i : ℕ) → Option ℕ → Change
word_change slot i (Some word) = set_to (message_seat slot i) word
word_change slot i None = set_to (entry_log slot).length 0

-- the parts of a posting, counted from 0: its event, then each word of its message, then an empty
-- log
abbrev pub fill_change : (slot event : ℕ) → (message : List ℕ) → (part : ℕ) → Change
fill_change slot event message zero = set_to (event_seat slot) event
fill_change slot event message (suc i) = word_change slot i (slice_get message i)

-- the parts before this one stand in the slot
pub record IsFilled (s : State) (slot event : ℕ) (message : List ℕ) (part : ℕ) : Type 0 where
  pub event_stands : 0 < part → s.at (event_seat slot) ≡ event
  pub words : (i word : ℕ) → i + 1 < part → slice_get message i ≡ Some word →
      message_word s slot i ≡ word
  pub emptied : length message + 1 < part → log_length s (log.Entry slot) ≡ 0

-- the posting stands in the slot, and its log has no word
pub record HasPosting (s : State) (slot event : ℕ) (message : List ℕ) : Type 0 where
  pub same_event : (entry_at s slot).event ≡ event
  pub words : take (length message) (entry_at s slot).message ≡ message
  pub empty : IsEmpty s (log.Entry slot)
