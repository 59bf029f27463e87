-- The words of the header, the variables and the flags, by their names.
use Rattle.std.specs.Prelude.{ℕ, ◌==◌, Bool}
use Rattle.nv_memory.specs.Seats.{Seat}
use Rattle.nv_memory.specs.State.{State}

-- 0 where no commit is under way, 1 of a task into its transaction, 2 of a unit, 3 of an event
abbrev pub mark_seat : Seat
mark_seat = Seat.Header 0

-- the task to run; 65535 after the halt
abbrev pub current_seat : Seat
current_seat = Seat.Header 1

-- the place after the commit under way
abbrev pub next_seat : Seat
next_seat = Seat.Header 2

-- 1 where a transaction is open
abbrev pub opened_seat : Seat
opened_seat = Seat.Header 3

-- position of the oldest entry
abbrev pub head_seat : Seat
head_seat = Seat.Header 6

-- position after the entry under commit
abbrev pub head_next_seat : Seat
head_next_seat = Seat.Header 7

-- position after the newest accepted entry
abbrev pub tail_seat : Seat
tail_seat = Seat.Header 8

-- 1 where the open transaction is aborted
abbrev pub doomed_seat : Seat
doomed_seat = Seat.Header 9

-- the first task of the open transaction
abbrev pub first_seat : Seat
first_seat = Seat.Header 10

-- 0 split, 1 buffi
abbrev pub mode_seat : Seat
mode_seat = Seat.Header 11

abbrev pub variable_seat : ℕ → Seat
variable_seat word = Seat.Part 0 word

-- 1 where the attempt's flag of the word is set
abbrev pub attempt_flag_seat : ℕ → Seat
attempt_flag_seat word = Seat.Part 5 word

-- 1 where the open transaction's flag of the word is set
abbrev pub tx_flag_seat : ℕ → Seat
tx_flag_seat word = Seat.Part 6 word

abbrev pub mark : State → ℕ
mark s = s.at mark_seat

abbrev pub current : State → ℕ
current s = s.at current_seat

abbrev pub next : State → ℕ
next s = s.at next_seat

abbrev pub opened : State → ℕ
opened s = s.at opened_seat

abbrev pub head : State → ℕ
head s = s.at head_seat

abbrev pub head_next : State → ℕ
head_next s = s.at head_next_seat

abbrev pub tail : State → ℕ
tail s = s.at tail_seat

abbrev pub doomed : State → ℕ
doomed s = s.at doomed_seat

abbrev pub first : State → ℕ
first s = s.at first_seat

abbrev pub mode : State → ℕ
mode s = s.at mode_seat

abbrev pub variable : State → ℕ → ℕ
variable s word = s.at (variable_seat word)

abbrev pub attempt_flag : State → ℕ → Bool
attempt_flag s word = s.at (attempt_flag_seat word) == 1

abbrev pub tx_flag : State → ℕ → Bool
tx_flag s word = s.at (tx_flag_seat word) == 1
