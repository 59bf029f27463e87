-- What stands at each seat of the image, and what a write makes of it.
use Rattle.std.specs.Prelude.{ℕ, ◌==◌, ◌≡◌, ◌<◌, List, [], ◌∷◌, slice_index, Bool, true, false, Option, Some, None, if◌then◌else◌}
use Rattle.nv_memory.specs.declared.write.Write.{Write}
use Rattle.nv_memory.specs.Seats.{Seat, Memory, IsMemory, address, is_seat, size, written}

-- all that is said of an image is said of its state
pub record State : Type 0 where
  pub n : ℕ
  pub k : ℕ
  pub at : Seat → ℕ

unfoldable pub cells : Memory → Seat → ℕ
cells m seat = if is_seat m.n m.k seat then slice_index m.words (address m.n seat) else 0

abbrev pub state : Memory → State
state m = record { n = m.n; k = m.k; at = cells m }

-- both are one seat; on numerals this is computed
abbrev pub is_same : Seat → Seat → Bool
is_same (Seat.Header i) (Seat.Header j) = i == j
is_same (Seat.Part p i) (Seat.Part q j) = if p == q then i == j else false
is_same (Seat.Entry s p i) (Seat.Entry t q j) = if p == q then (if i == j then s == t else false)
    else false
is_same _ _ = false

-- a value to stand at a seat
pub record Change : Type 0 where
  pub seat : Seat
  pub value : ℕ

abbrev pub set_to : Seat → ℕ → Change
set_to seat value = record { seat = seat; value = value }

-- the state with one change made
abbrev pub put : State → Change → State
put s change = record s {
  at = λ other. if is_same other change.seat then change.value
      else s.at other;
}

-- it stands already
abbrev pub is_done : State → Change → Bool
is_done s change = s.at change.seat == change.value

-- the first of several changes that doesn't stand yet
abbrev pub first_undone : State → List Change → Option Change
first_undone s [] = None
first_undone s (change ∷ changes) = if is_done s change then first_undone s changes
    else Some change

-- the write that makes a change
abbrev pub write_of : ℕ → Change → Write
write_of n change = record { at = address n change.seat; word = change.value }

-- the write makes this change, to a seat of the image
pub record Writes (m : Memory) (change : Change) (write : Write) : Type 0 where
  pub seat : is_seat m.n m.k change.seat ≡ true
  pub is : write ≡ write_of m.n change

-- such a write changes what stands at its seat and nothing else
pub record PutsOneWord (m : Memory) (change : Change) (write : Write) : Type 0 where
  pub within : write.at < size m.n m.k
  pub state : state (written m write) ≡ put (state m) change

abbrev pub WritesPutOneWord : Type 0
WritesPutOneWord = (m : Memory) (change : Change) (write : Write) → IsMemory m →
    Writes m change write → PutsOneWord m change write
