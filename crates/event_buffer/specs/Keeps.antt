-- What the writes to the ring leave as it was.
use Rattle.std.specs.Prelude.{ℕ, ◌≡◌, ◌≢◌, ◌<◌, slice_index}
use Rattle.nv_memory.specs.declared.log.Log.{Log}
use Rattle.nv_memory.specs.declared.log.Log.TheVariants as log
use Rattle.nv_memory.specs.State.{State}
use Rattle.nv_memory.specs.Words.{attempt_flag_seat, current, doomed, first, head, head_next, mark, mode, next, opened, tail, tx_flag_seat, variable}
use Rattle.nv_memory.specs.Logs.{log_value}
use Rattle.nv_memory.specs.Ring.{entry_at, held_count, held_slots}
use Rattle.nv_memory.specs.StandsFor.{committed_word, place_of}
use Rattle.nv_memory.specs.Frames.{StandsForTheSame}
use Rattle.nv_memory.specs.InRange.{ArePlacesInRange, InRange, IsClosed}

-- nothing but the entry in one slot
pub record KeepsBesideEntry (slot : ℕ) (s t : State) : Type 0 where
  pub words : t.n ≡ s.n
  pub slots : t.k ≡ s.k
  pub same_mark : mark t ≡ mark s
  pub same_current : current t ≡ current s
  pub same_next : next t ≡ next s
  pub same_opened : opened t ≡ opened s
  pub same_head : head t ≡ head s
  pub same_head_next : head_next t ≡ head_next s
  pub same_tail : tail t ≡ tail s
  pub same_doomed : doomed t ≡ doomed s
  pub same_first : first t ≡ first s
  pub same_mode : mode t ≡ mode s
  pub variables : (word : ℕ) → variable t word ≡ variable s word
  pub attempt_flags : (word : ℕ) → t.at (attempt_flag_seat word) ≡ s.at (attempt_flag_seat word)
  pub tx_flags : (word : ℕ) → t.at (tx_flag_seat word) ≡ s.at (tx_flag_seat word)
  pub entries : (other : ℕ) → other ≢ slot → entry_at t other ≡ entry_at s other
  pub logs : (other : Log) → other ≢ log.Entry slot → (word : ℕ) →
      log_value t other word ≡ log_value s other word

-- the held entries with their slots and logs, and the rest of what the image stands for
pub record KeepsHeld (s t : State) : Type 0 where
  pub same : StandsForTheSame s t
  pub slots : held_slots t ≡ held_slots s
  pub logs : (i : ℕ) → i < held_count s → (word : ℕ)
      → log_value t (log.Entry (slice_index (held_slots s) i)) word
      ≡ log_value s (log.Entry (slice_index (held_slots s) i)) word

-- every log and every flag
pub record KeepsLogs (s t : State) : Type 0 where
  pub logs : (log : Log) (word : ℕ) → log_value t log word ≡ log_value s log word
  pub attempt_flags : (word : ℕ) → t.at (attempt_flag_seat word) ≡ s.at (attempt_flag_seat word)
  pub tx_flags : (word : ℕ) → t.at (tx_flag_seat word) ≡ s.at (tx_flag_seat word)

-- the committed words and the place
pub record KeepsCommitted (s t : State) : Type 0 where
  pub words : (word : ℕ) → committed_word t word ≡ committed_word s word
  pub place : place_of t ≡ place_of s

-- the ranges, and that a closed transaction leaves nothing behind
pub record KeepsSound (s t : State) : Type 0 where
  pub range : InRange t
  pub places : (tasks : ℕ) → ArePlacesInRange tasks s → ArePlacesInRange tasks t
  pub closed : IsClosed s → IsClosed t
