-- Laws of the ring.
use Rattle.std.specs.Prelude.{ℕ, ◌<◌, ◌≤◌, ◌≡◌, ◌≢◌, slice_index, true}
use Rattle.nv_memory.specs.State.{State}
use Rattle.nv_memory.specs.Words.{head, tail}
use Rattle.nv_memory.specs.InRange.{IsRing}
use Rattle.nv_memory.specs.Ring.{held_count, held_slots, is_taking, slot_of}

-- no more are held than the buffer has room for
abbrev pub HeldFitTheBuffer : Type 0
HeldFitTheBuffer = (s : State) → IsRing s → held_count s ≤ s.k

-- each has a slot, and the slots differ
abbrev pub HeldSlotsDiffer : Type 0
HeldSlotsDiffer = (s : State) (i j : ℕ) → IsRing s → i < j → j < held_count s →
    slice_index (held_slots s) i ≢ slice_index (held_slots s) j

-- a slot is free for the next posting, where not so many are held
abbrev pub TailSlotIsFree : Type 0
TailSlotIsFree = (s : State) (i : ℕ) → IsRing s → i < held_count s →
    slice_index (held_slots s) i ≢ slot_of s.k (tail s)

-- while an event's commit takes the entry at the head, its slot is none of the held ones
abbrev pub TakenSlotIsNotHeld : Type 0
TakenSlotIsNotHeld = (s : State) (i : ℕ) → IsRing s → is_taking s ≡ true → i < held_count s →
    slice_index (held_slots s) i ≢ slot_of s.k (head s)
