-- The next write of a list of changes is that of the first one which doesn't stand yet.
use Rattle.std.specs.Prelude.{ℕ, zero, suc, ◌≡◌, List, [], ◌∷◌, ◌++◌, Option, Some, None, Bool, true, ◌&&◌, nat_lt}
use Rattle.nv_memory.specs.declared.write.Write.{Write}
use Rattle.nv_memory.specs.Seats.{Memory, Seat}
use Rattle.nv_memory.specs.State.{Change, Writes, first_undone, set_to, state}

-- the write makes the first change that doesn't stand
pub record MakesNext (m : Memory) (changes : List Change) (write : Write) : Type 0 where
  pub change : Change
  pub next : first_undone (state m) changes ≡ Some change
  pub writes : Writes m change write

-- the answer is that write; none exactly where all changes stand
abbrev pub IsNext : Memory → List Change → Option Write → Type 0
IsNext m changes None = first_undone (state m) changes ≡ None
IsNext m changes (Some write) = MakesNext m changes write

-- the changes of the first so many places, in their order
abbrev pub changes_below : (ℕ → List Change) → ℕ → List Change
changes_below changes_of zero = []
changes_below changes_of (suc i) = changes_below changes_of i ++ changes_of i

-- the changes of writes to the header
abbrev pub header_changes : List Write → List Change
header_changes [] = []
header_changes (write ∷ writes) = set_to (Seat.Header write.at) write.word ∷ header_changes writes

-- all of them are
abbrev pub are_headers : List Write → Bool
are_headers [] = true
are_headers (write ∷ writes) = nat_lt write.at 12 && are_headers writes
