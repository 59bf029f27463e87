-- Small rows, computed: two variable words, room for one posting.
use Rattle.std.proofs.Common.{◌≡◌, ℕ, ◌==◌, refl, [], ◌∷◌, Some, if◌then◌else◌}
use Rattle.nv_memory.specs.Seats.{Seat}
use Rattle.nv_memory.specs.State.{State, first_undone, put, set_to}
use Rattle.nv_memory.specs.StandsFor.{committed_word, place_of}
use Rattle.commit_log.specs.Changes.{commit_changes}
use Rattle.commit_log.specs.Left.{writes_left}
use Rattle.commit_log.specs.OpenUnit.{unit_log, unit_next}

-- the task log gives word 1 the value 7, the transaction log word 0 the value 5, the entry in slot 0 word 1 the value 9; the
-- attempt read word 0; the number behind the transaction log is a stale 1
parts : ℕ → ℕ → ℕ
parts part word =
    if part == 1 then 1 else (if part == 2 then 7 else (if part == 3 then word else (if part == 4 then 5
    else (if part == 5 then (if word == 0 then 1 else 0) else 0))))

entry : ℕ → ℕ
entry part = if part == 0 then 1 else (if part == 1 then 1 else 9)

-- the header: the marker, the place 3 and the next one 4, no transaction open, a pair in each log, the head before the next head
headers : (mark i : ℕ) → ℕ
headers mark i =
    if i == 0 then mark else (if i == 1 then 3 else (if i == 2 then 4 else (if i == 4 then 1 else (if i == 5 then 1
    else (if i == 7 then 1 else (if i == 8 then 1 else 0))))))

marked : ℕ → State
marked mark = record {
  n = 2;
  k = 1;
  at = λ seat. elim seat [
    | Seat.Header i ↦ headers mark i
    | Seat.Part part word ↦ parts part word
    | Seat.Entry slot part at ↦ entry part
  ];
}

-- a task into its transaction
into_tx_row : commit_changes (marked 1) ≡
    set_to (Seat.Part 3 1) 1 ∷ set_to (Seat.Part 4 1) 7 ∷ set_to (Seat.Header 5) 2 ∷ set_to (Seat.Part 6 0) 1
    ∷ set_to (Seat.Header 10) 3 ∷ set_to (Seat.Header 3) 1 ∷ set_to (Seat.Header 1) 4 ∷ set_to (Seat.Header 4) 0 ∷ set_to (Seat.Header 0) 0 ∷ []
unfolding marked headers parts entry
into_tx_row = refl

-- all but the stale number
into_tx_left_row : writes_left (marked 1) ≡ 8
unfolding marked headers parts entry
into_tx_left_row = refl

into_tx_unit_row : (unit_log (marked 1) 1 ≡ Some 7) × (unit_next (marked 1) ≡ 4) × (place_of (marked 1) ≡ 3)
unfolding marked headers parts entry
into_tx_unit_row = (refl, refl, refl)

-- a unit into the variables
unit_row : commit_changes (marked 2) ≡
    set_to (Seat.Part 0 0) 5 ∷ set_to (Seat.Part 0 1) 7 ∷ set_to (Seat.Header 5) 0 ∷ set_to (Seat.Header 4) 0
    ∷ set_to (Seat.Part 6 0) 0 ∷ set_to (Seat.Part 6 1) 0 ∷ set_to (Seat.Header 3) 0 ∷ set_to (Seat.Header 1) 4 ∷ set_to (Seat.Header 0) 0 ∷ []
unfolding marked headers parts entry
unit_row = refl

-- two variables, two logs, the place and the marker; no flag is set, and no transaction is open
unit_left_row : writes_left (marked 2) ≡ 6
unfolding marked headers parts entry
unit_left_row = refl

unit_words_row : (committed_word (marked 2) 0 ≡ 5) × (committed_word (marked 2) 1 ≡ 7) × (place_of (marked 2) ≡ 4)
unfolding marked headers parts entry
unit_words_row = (refl, refl, refl)

-- an event into the variables
event_row : commit_changes (marked 3) ≡ set_to (Seat.Part 0 1) 9 ∷ set_to (Seat.Header 6) 1 ∷ set_to (Seat.Header 0) 0 ∷ []
unfolding marked headers parts entry
event_row = refl

event_left_row : writes_left (marked 3) ≡ 3
unfolding marked headers parts entry
event_left_row = refl

-- once the entry is freed, the marker alone is left
event_last_row : let s = put (put (marked 3) (set_to (Seat.Part 0 1) 9)) (set_to (Seat.Header 6) 1) in
    (first_undone s (commit_changes s) ≡ Some (set_to (Seat.Header 0) 0)) × (writes_left s ≡ 1)
unfolding marked headers parts entry
event_last_row = (refl, refl)

clear_row : (commit_changes (marked 0) ≡ []) × (writes_left (marked 0) ≡ 0)
unfolding marked headers parts entry
clear_row = (refl, refl)
