-- The words of a blank image, seat by seat.
use Rattle.std.proofs.Common.{◌≡◌, ℕ, ◌+◌, ◌-◌, ◌*◌, ◌<◌, ◌≤◌, ◌≢◌, ◌==◌, List, [], ◌∷◌, ◌++◌, length, replicate, inl, inr, refl, sym, ap, ◌∙◌, arith, Bool, true, false, if◌then◌else◌}
use Rattle.std.specs.Prelude.{slice_index}
use Rattle.std.proofs.lemmas.List.{get_or_append_left, get_or-append_right, get_or_past, get_or-replicate}
use Rattle.std.proofs.Math.Nat.{mul-le-mul_right}
use Rattle.std.proofs.lemmas.Bool.{cases_eq}
use Rattle.std.proofs.lemmas.Bool.Decides.{nat_tests}
use Rattle.coati_word.specs.declared.mode.Mode.{Mode}
use Rattle.coati_word.specs.declared.mode.Mode.TheVariants as mode
use Rattle.nv_memory.specs.Seats.{Seat, address, is_seat, size}
use Rattle.nv_memory.specs.State.{cells, state}
use Rattle.nv_memory.specs.Blank.{blank, blank_cells, blank_words, header_words, mode_word}
use Rattle.nv_memory.proofs.Seats.{is_in, part_seat, seat_inside}
use Rattle.nv_memory.proofs.Looks.{test_other}

header_length : (mode : Mode) → length (header_words mode) ≡ 12
header_length mode.Split = refl
header_length mode.Buffi = refl

header_at : (mode : Mode) (i : ℕ) → i < 12 → slice_index (header_words mode) i ≡ (if i == 11 then mode_word mode else 0)
header_at mode i l = elim (cases_eq i 11) [
  | inl last ↦ rw last refl
  | inr other ↦ rw (test_other i 11 other)
      (get_or_append_left (replicate 11 0) (mode_word mode ∷ []) 0 i (omega (arith, other)) ∙ get_or-replicate 11 i 0 0 (omega (arith, other)))
]

module _ (k : ℕ) (opening : List ℕ) (mode : Mode) where
  abbrev rest : List ℕ
  rest = replicate (size (length opening) k - (12 + length opening)) 0

  in_header : (i : ℕ) → i < 12 → slice_index (blank_words k opening mode) i ≡ (if i == 11 then mode_word mode else 0)
  in_header i l = get_or_append_left (header_words mode) (opening ++ rest) 0 i (rw (header_length mode) l) ∙ header_at mode i l

  in_opening : (word : ℕ) → word < length opening → slice_index (blank_words k opening mode) (12 + word) ≡ slice_index opening word
  in_opening word l =
      get_or-append_right (header_words mode) (opening ++ rest) 12 (12 + word) 0 (header_length mode) (omega arith)
      ∙ ap (λ (i : ℕ). slice_index (opening ++ rest) i) (let e : 12 + word - 12 ≡ word = omega arith in e)
      ∙ get_or_append_left opening rest 0 word l

  in_rest : (at : ℕ) → 12 + length opening ≤ at → at < size (length opening) k → slice_index (blank_words k opening mode) at ≡ 0
  in_rest at l h =
      get_or-append_right (header_words mode) (opening ++ rest) 12 at 0 (header_length mode) (omega arith)
      ∙ get_or-append_right opening rest (length opening) (at - 12) 0 refl (omega (arith, l))
      ∙ get_or-replicate (size (length opening) k - (12 + length opening)) (at - 12 - length opening) 0 0 (omega (arith, l, h))

  -- a word of a part behind the variables
  behind_variables : (part word : ℕ) → part ≢ 0 → 12 + length opening ≤ 12 + (part * length opening + word)
  behind_variables part word other =
      let rows : 1 * length opening ≤ part * length opening = mul-le-mul_right (length opening) (omega (arith, other)) in omega (arith, rows)

  part_cell : (part word : ℕ) (b : Bool) → (part == 0) ≡ b → part < 7 → word < length opening
      → slice_index (blank_words k opening mode) (12 + (part * length opening + word)) ≡ (if b then slice_index opening word else 0)
  part_cell part word true e l h =
      let zero_ : part ≡ 0 = grind (arith, nat_tests) in
      let there : part * length opening + word ≡ word = rw zero_ (omega arith) in
      ap (λ (at : ℕ). slice_index (blank_words k opening mode) (12 + at)) there ∙ in_opening word h
  part_cell part word false e l h =
      in_rest (12 + (part * length opening + word)) (behind_variables part word (grind (arith, nat_tests)))
      (seat_inside (length opening) k (Seat.Part part word) (part_seat (length opening) k part word l h))

  no_part_cell : (part word : ℕ) (b : Bool) → (part == 0) ≡ b → is_seat (length opening) k (Seat.Part part word) ≡ false
      → 0 ≡ (if b then slice_index opening word else 0)
  no_part_cell part word true e is =
      let zero_ : part ≡ 0 = grind (arith, nat_tests) in
      let beyond : length opening ≤ word = grind (arith, nat_tests) in sym (get_or_past opening word 0 beyond)
  no_part_cell part word false e is = refl

  no_header_cell : (i : ℕ) → is_seat (length opening) k (Seat.Header i) ≡ false → 0 ≡ (if i == 11 then mode_word mode else 0)
  no_header_cell i is = let other : i ≢ 11 = grind (arith, nat_tests) in rw (test_other i 11 other) refl

  cell_blank : (seat : Seat) (b : Bool) → is_seat (length opening) k seat ≡ b
      → (if b then slice_index (blank_words k opening mode) (address (length opening) seat) else 0) ≡ blank_cells opening mode seat
  cell_blank (Seat.Header i) true is = in_header i (is_in (length opening) k (Seat.Header i) is)
  cell_blank (Seat.Header i) false is = no_header_cell i is
  cell_blank (Seat.Part part word) true is =
      let there = is_in (length opening) k (Seat.Part part word) is in part_cell part word (part == 0) refl there.0 there.1
  cell_blank (Seat.Part part word) false is = no_part_cell part word (part == 0) refl is
  cell_blank (Seat.Entry slot part at) true is =
      in_rest (address (length opening) (Seat.Entry slot part at)) (omega arith) (seat_inside (length opening) k (Seat.Entry slot part at) is)
  cell_blank (Seat.Entry slot part at) false is = refl

  pub blank_state : state (record { n = length opening; k = k; words = blank_words k opening mode }) ≡ blank opening k mode
  unfolding cells
  blank_state = λ i. record {
    n = length opening;
    k = k;
    at = λ seat. cell_blank seat (is_seat (length opening) k seat) refl i;
  }
