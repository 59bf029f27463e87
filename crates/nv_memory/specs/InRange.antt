-- The ranges of the image's words, and that a closed transaction leaves nothing behind.
use Rattle.std.specs.Prelude.{ℕ, ◌+◌, ◌<◌, ◌≤◌, ◌≡◌, ◌≢◌, ◌⊎◌, true, false}
use Rattle.nv_memory.specs.declared.log.Log.{Log}
use Rattle.nv_memory.specs.declared.log.Log.TheVariants as log
use Rattle.nv_memory.specs.Seats.{IsSized}
use Rattle.nv_memory.specs.State.{State}
use Rattle.nv_memory.specs.Words.{attempt_flag_seat, current, doomed, first, head, head_next, mark, next, opened, tail, tx_flag, tx_flag_seat}
use Rattle.nv_memory.specs.Logs.{HasLog, IsEmpty, IsLog, seats_of}
use Rattle.nv_memory.specs.Ring.{is_taking, position_after, positions, positions_between}

-- from the head to the tail there are as many entries as are held, or one more while the head's is
-- taken
pub record IsRing (s : State) : Type 0 where
  pub head_low : head s < positions s.k
  pub next_low : head_next s < positions s.k
  pub tail_low : tail s < positions s.k
  pub few : is_taking s ≡ false → positions_between s.k (head s) (tail s) ≤ s.k
  pub taken_some : is_taking s ≡ true → 1 ≤ positions_between s.k (head s) (tail s)
  pub taken_few : is_taking s ≡ true → positions_between s.k (head s) (tail s) ≤ s.k + 1
  pub taken_follows : is_taking s ≡ true → head_next s ≡ position_after s.k (head s)

-- the ranges, those of places aside
pub record InRange (s : State) : Type 0 where
  pub sizes : IsSized s.n s.k
  pub mark : mark s < 4
  pub opened : opened s < 2
  pub doomed : doomed s < 2
  pub attempt_flags : (word : ℕ) → word < s.n → s.at (attempt_flag_seat word) < 2
  pub tx_flags : (word : ℕ) → word < s.n → s.at (tx_flag_seat word) < 2
  pub logs : (log : Log) → HasLog s.k log → IsLog s (seats_of log)
  pub ring : IsRing s

-- a task's number, or 65535 for none
abbrev pub IsPlace : ℕ → ℕ → Type 0
IsPlace tasks place = (place < tasks) ⊎ (place ≡ 65535)

-- the range of places in a program of so many tasks
pub record ArePlacesInRange (tasks : ℕ) (s : State) : Type 0 where
  pub current : IsPlace tasks (current s)
  pub next : IsPlace tasks (next s)
  pub first : IsPlace tasks (first s)

pub record IsClosed (s : State) : Type 0 where
  pub empty : opened s ≡ 0 → mark s ≢ 1 → IsEmpty s log.Tx
  pub flags : opened s ≡ 0 → mark s ≢ 1 → (word : ℕ) → word < s.n → tx_flag s word ≡ false
  pub doomed_mark : doomed s ≡ 1 → mark s ≡ 0
  pub doomed_place : doomed s ≡ 1 → (opened s ≡ 1) ⊎ (current s ≡ first s)
