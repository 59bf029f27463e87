-- What the writes that move the ring on make of the image: one accepts the posting at the tail,
-- one says which position follows the head, the marker takes the posting at the head into the
-- variables, and one moves the head on.
use Rattle.std.specs.Prelude.{ℕ, ◌<◌, ◌≡◌, ◌∷◌, [], ◌++◌, false, Some}
use Rattle.std.specs.Option.{unwrap_or}
use Rattle.nv_memory.specs.declared.log.Log.TheVariants as log
use Rattle.nv_memory.specs.State.{Change, State, put, set_to}
use Rattle.nv_memory.specs.Words.{doomed, head, head_next, head_next_seat, head_seat, mark, mark_seat, tail, tail_seat, variable}
use Rattle.nv_memory.specs.Logs.{log_value}
use Rattle.nv_memory.specs.Ring.{entry_at, held_count, held_entries, held_slots, position_after}
use Rattle.nv_memory.specs.StandsFor.{committed_word, head_slot, place_of}
use Rattle.nv_memory.specs.InRange.{InRange}
use Rattle.event_buffer.specs.Fill.{is_full, tail_slot}
use Rattle.event_buffer.specs.Keeps.{KeepsCommitted, KeepsLogs, KeepsSound}

-- the position after the tail becomes the tail
abbrev pub accept_change : State → Change
accept_change s = set_to tail_seat (position_after s.k (tail s))

-- the entry at the tail is the newest held one
pub record Accepts (s t : State) : Type 0 where
  pub held : held_entries t ≡ held_entries s ++ entry_at s (tail_slot s) ∷ []
  pub slots : held_slots t ≡ held_slots s ++ tail_slot s ∷ []
  pub committed : KeepsCommitted s t
  pub logs : KeepsLogs s t
  pub sound : KeepsSound s t

abbrev pub AcceptsAddTheNewest : Type 0
AcceptsAddTheNewest = (s : State) → InRange s → is_full s ≡ false →
    Accepts s (put s (accept_change s))

-- the position after the head is prepared for an event's commit
abbrev pub prepare_change : State → Change
prepare_change s = set_to head_next_seat (position_after s.k (head s))

-- all is held as before
pub record KeepsRing (s t : State) : Type 0 where
  pub held : held_entries t ≡ held_entries s
  pub slots : held_slots t ≡ held_slots s
  pub logs : KeepsLogs s t
  pub sound : KeepsSound s t

pub record Prepares (s t : State) : Type 0 where
  pub follows : head_next t ≡ position_after t.k (head t)
  pub ring : KeepsRing s t
  pub committed : KeepsCommitted s t

abbrev pub PreparesLeaveTheHeld : Type 0
PreparesLeaveTheHeld = (s : State) → InRange s → mark s ≡ 0 → Prepares s (put s (prepare_change s))

-- the oldest entry is held no more: its log stands in the committed words
pub record Takes (s t : State) : Type 0 where
  pub held : held_entries s ≡ entry_at s (head_slot s) ∷ held_entries t
  pub slots : held_slots s ≡ head_slot s ∷ held_slots t
  pub words : (word : ℕ)
      → committed_word t word ≡ unwrap_or (log_value s (log.Entry (head_slot s)) word)
      (committed_word s word)
  pub place : place_of t ≡ place_of s
  pub logs : KeepsLogs s t
  pub sound : KeepsSound s t

abbrev pub MarksTakeTheOldest : Type 0
MarksTakeTheOldest = (s : State) → InRange s → mark s ≡ 0 → doomed s ≡ 0 → 0 < held_count s
    → head_next s ≡ position_after s.k (head s) → Takes s (put s (set_to mark_seat 3))

-- the position that was prepared becomes the head
abbrev pub free_change : State → Change
free_change s = set_to head_seat (head_next s)

-- each value of the log of the entry at the head stands in its variable
abbrev pub IsHeadApplied : State → Type 0
IsHeadApplied s = (word value : ℕ) → log_value s (log.Entry (head_slot s)) word ≡ Some value →
    variable s word ≡ value

-- the marker has taken the entry at the head before
pub record Frees (s t : State) : Type 0 where
  pub ring : KeepsRing s t
  pub committed : IsHeadApplied s → KeepsCommitted s t

abbrev pub FreesLeaveTheHeld : Type 0
FreesLeaveTheHeld = (s : State) → InRange s → mark s ≡ 3 → Frees s (put s (free_change s))
