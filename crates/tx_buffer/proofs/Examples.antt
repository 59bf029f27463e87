-- Small rows: a task stored 7 into word 1 and read word 0, while the transaction has 5 for word 0.
use Rattle.std.proofs.Common.{◌≡◌, ℕ, ◌==◌, refl, [], ◌∷◌, Some, None, if◌then◌else◌}
use Rattle.nv_memory.specs.Seats.{Seat}
use Rattle.nv_memory.specs.State.{State, first_undone, put, set_to}
use Rattle.nv_memory.specs.StandsFor.{unit_value}
use Rattle.tx_buffer.specs.Merge.{merge_changes}
use Rattle.tx_buffer.specs.Clear.{clear_changes}

-- by part and word; the number behind the transaction log is a stale 1
parts : ℕ → ℕ → ℕ
parts part word =
    if part == 1 then 1 else (if part == 2 then 7 else (if part == 3 then word else (if part == 4 then 5
    else (if part == 5 then (if word == 0 then 1 else 0) else 0))))

merging : State
merging = record {
  n = 2;
  k = 1;
  at = λ seat. elim seat [
    | Seat.Header i ↦ if i == 0 then 1 else (if i == 4 then 1 else (if i == 5 then 1 else 0))
    | Seat.Part part word ↦ parts part word
    | Seat.Entry slot part at ↦ 0
  ];
}

-- word 1 gets a pair, then word 0 its flag
merge_row : merge_changes merging ≡
    set_to (Seat.Part 3 1) 1 ∷ set_to (Seat.Part 4 1) 7 ∷ set_to (Seat.Header 5) 2 ∷ set_to (Seat.Part 6 0) 1 ∷ []
unfolding merging parts
merge_row = refl

-- the stale number counts as written
next_row : first_undone merging (merge_changes merging) ≡ Some (set_to (Seat.Part 4 1) 7)
unfolding merging parts
next_row = refl

-- with the pair there, the flag is next
flag_row : let s = put (put merging (set_to (Seat.Part 4 1) 7)) (set_to (Seat.Header 5) 2) in
    first_undone s (merge_changes s) ≡ Some (set_to (Seat.Part 6 0) 1)
unfolding merging parts
flag_row = refl

-- the unit's values, whoever has them
value_row : (unit_value merging 1 ≡ Some 7) × (unit_value merging 0 ≡ Some 5) × (unit_value merging 2 ≡ None)
unfolding merging parts
value_row = (refl, refl, refl)

clear_row : clear_changes merging ≡ set_to (Seat.Header 5) 0 ∷ set_to (Seat.Part 6 0) 0 ∷ set_to (Seat.Part 6 1) 0 ∷ []
unfolding merging
clear_row = refl
