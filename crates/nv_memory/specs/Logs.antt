-- A log is its first pairs of a word number and a value. What stands above speaks of it by
-- look-up.
use Rattle.std.specs.Prelude.{ℕ, zero, suc, ◌==◌, ◌<◌, ◌≤◌, ◌≡◌, ◌≢◌, Option, Some, None, if◌then◌else◌}
use Rattle.nv_memory.specs.declared.log.Log.{Log}
use Rattle.nv_memory.specs.declared.log.Log.TheVariants as log
use Rattle.nv_memory.specs.Seats.{Seat}
use Rattle.nv_memory.specs.State.{State}

-- where a log lies: its length, its word numbers, its values
pub record LogSeats : Type 0 where
  pub length : Seat
  pub number : ℕ → Seat
  pub value : ℕ → Seat

abbrev pub task_log : LogSeats
task_log = record {
  length = Seat.Header 4;
  number = λ i. Seat.Part 1 i;
  value = λ i. Seat.Part 2 i;
}

abbrev pub tx_log : LogSeats
tx_log = record { length = Seat.Header 5; number = λ i. Seat.Part 3 i; value = λ i. Seat.Part 4 i }

abbrev pub entry_log : ℕ → LogSeats
entry_log slot = record {
  length = Seat.Entry slot 0 1;
  number = λ i. Seat.Entry slot 1 i;
  value = λ i. Seat.Entry slot 2 i;
}

abbrev pub seats_of : Log → LogSeats
seats_of log.Task = task_log
seats_of log.Tx = tx_log
seats_of (log.Entry slot) = entry_log slot

-- the log is one of an image with k entries besides one
abbrev pub HasLog : ℕ → Log → Type 0
HasLog k log.Task = Unit {0}
HasLog k log.Tx = Unit {0}
HasLog k (log.Entry slot) = slot ≤ k

-- the place of a word among the first word numbers
abbrev pub index_of : (ℕ → ℕ) → ℕ → ℕ → Option ℕ
index_of numbers zero word = None
index_of numbers (suc i) word = if numbers i == word then Some i else index_of numbers i word

-- the value of a word among the first pairs
abbrev pub look_up : (ℕ → ℕ) → (ℕ → ℕ) → ℕ → ℕ → Option ℕ
look_up numbers values zero word = None
look_up numbers values (suc i) word = if numbers i == word then Some (values i)
    else look_up numbers values i word

abbrev pub length_in : State → LogSeats → ℕ
length_in s l = s.at l.length

abbrev pub number_in : State → LogSeats → ℕ → ℕ
number_in s l i = s.at (l.number i)

abbrev pub pair_value_in : State → LogSeats → ℕ → ℕ
pair_value_in s l i = s.at (l.value i)

abbrev pub index_in : State → LogSeats → ℕ → Option ℕ
index_in s l word = index_of (number_in s l) (length_in s l) word

abbrev pub value_in : State → LogSeats → ℕ → Option ℕ
value_in s l word = look_up (number_in s l) (pair_value_in s l) (length_in s l) word

-- how many pairs a log has
abbrev pub log_length : State → Log → ℕ
log_length s log = length_in s (seats_of log)

-- the place of a word's pair in a log
abbrev pub log_index : State → Log → ℕ → Option ℕ
log_index s log word = index_in s (seats_of log) word

-- the value of a word in a log
abbrev pub log_value : State → Log → ℕ → Option ℕ
log_value s log word = value_in s (seats_of log) word

-- the log has no word
abbrev pub IsEmpty : State → Log → Type 0
IsEmpty s log = (word : ℕ) → log_value s log word ≡ None

-- the ranges of a log: its length, its word numbers, and no word twice
pub record IsLog (s : State) (l : LogSeats) : Type 0 where
  pub short : length_in s l ≤ s.n
  pub below : (i : ℕ) → i < length_in s l → number_in s l i < s.n
  pub once : (i j : ℕ) → i < j → j < length_in s l → number_in s l i ≢ number_in s l j
