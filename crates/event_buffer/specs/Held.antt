-- The held entries one by one.
use Rattle.std.specs.Prelude.{ℕ, ◌+◌, ◌%◌, ◌≡◌, length}
use Rattle.nv_memory.specs.State.{State}
use Rattle.nv_memory.specs.Ring.{held_count, held_entries, oldest, positions, slot_of}

-- the slot so many positions behind the oldest entry
abbrev pub slot_behind : State → ℕ → ℕ
slot_behind s i = slot_of s.k ((oldest s + i) % positions s.k)

-- the held entries are as many as there are positions from the oldest to the tail
abbrev pub HeldAreCounted : Type 0
HeldAreCounted = (s : State) → length (held_entries s) ≡ held_count s
