-- The ring of postings. Positions count modulo twice the number of slots, so that a full ring
-- isn't an empty one.
use Rattle.std.specs.Prelude.{ℕ, zero, suc, ◌+◌, ◌-◌, ◌*◌, ◌%◌, ◌==◌, List, [], ◌∷◌, map, Bool, not, ◌&&◌, if◌then◌else◌}
use Rattle.nv_memory.specs.Seats.{Seat}
use Rattle.nv_memory.specs.State.{State}
use Rattle.nv_memory.specs.Words.{mark, head, head_next, tail}

-- how many positions there are
abbrev pub positions : ℕ → ℕ
positions k = 2 * (k + 1)

abbrev pub position_after : ℕ → ℕ → ℕ
position_after k position = (position + 1) % positions k

-- the slot of a position
abbrev pub slot_of : ℕ → ℕ → ℕ
slot_of k position = position % (k + 1)

-- how many positions there are from one up to and without another
abbrev pub positions_between : ℕ → ℕ → ℕ → ℕ
positions_between k from to = (to + positions k - from) % positions k

-- the slots of so many positions from one on
abbrev pub slots_from : ℕ → ℕ → ℕ → List ℕ
slots_from k position zero = []
slots_from k position (suc count) = slot_of k position
    ∷ slots_from k (position_after k position) count

-- an event's commit is under way and the entry at the head is not yet behind it
abbrev pub is_taking : State → Bool
is_taking s = mark s == 3 && not (head s == head_next s)

-- the position of the oldest held entry: the commit's mark takes the one at the head
abbrev pub oldest : State → ℕ
oldest s = if mark s == 3 then head_next s else head s

abbrev pub held_count : State → ℕ
held_count s = positions_between s.k (oldest s) (tail s)

-- the slots of the held entries, the oldest first
abbrev pub held_slots : State → List ℕ
held_slots s = slots_from s.k (oldest s) (held_count s)

-- a posting as it stands in an entry: the event, and the four message words
pub record Entry : Type 0 where
  pub event : ℕ
  pub message : List ℕ

abbrev pub event_seat : ℕ → Seat
event_seat slot = Seat.Entry slot 0 0

abbrev pub message_seat : ℕ → ℕ → Seat
message_seat slot i = Seat.Entry slot 0 (2 + i)

abbrev pub message_word : State → ℕ → ℕ → ℕ
message_word s slot i = s.at (message_seat slot i)

abbrev pub entry_at : State → ℕ → Entry
entry_at s slot = record {
  event = s.at (event_seat slot);
  message = message_word s slot 0 ∷ message_word s slot 1 ∷ message_word s slot 2
      ∷ message_word s slot 3 ∷ [];
}

-- the postings that are accepted and in no commit's record yet, the oldest first
abbrev pub held_entries : State → List Entry
held_entries s = map (entry_at s) (held_slots s)
