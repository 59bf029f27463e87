-- A line, cut at its spaces.
use Rattle.std.proofs.Common.{◌≡◌, ℕ, ◌+◌, ◌<◌, ◌≤◌, List, [], ◌∷◌, length, drop, refl, arith, suc, inl, inr}
use Rattle.std.specs.List.{position_or_len}
use Rattle.std.proofs.lemmas.Bool.{cases_Bool, cases_lt}
use Rattle.std.proofs.lemmas.List.Splits.{slice_split_first}
use Rattle.trace_text.specs.Fields.{fields_of, first_word, is_space}

-- the field before the first space, and those behind it
pub fields_of-cut : (line : List ℕ) → position_or_len is_space line < length line
    → fields_of line ≡ first_word line ∷ fields_of (drop (position_or_len is_space line + 1) line)
fields_of-cut line within = slice_split_first is_space line 0 within

-- a line without a space is one field
pub fields_of-last : (line : List ℕ) → length line ≤ position_or_len is_space line → fields_of line ≡ first_word line ∷ []
fields_of-last [] none = refl
fields_of-last (byte ∷ line) none = elim (cases_Bool (is_space byte)) [
  | inl space ↦ let h : length (byte ∷ line) ≤ 0 = rw space at none in absurd (omega arith)
  | inr other ↦
      let counted : length (byte ∷ line) ≤ 1 + position_or_len is_space line = rw other at none in
      let again = fields_of-last line (omega (arith, counted)) in
      let one_more : 1 + position_or_len is_space line ≡ suc (position_or_len is_space line) = omega arith in
      rw (other, one_more, again) refl
]

-- the first field is the first word
pub first_field : (line : List ℕ) → (more : List (List ℕ)) × (fields_of line ≡ first_word line ∷ more)
first_field line = elim (cases_lt (position_or_len is_space line) (length line)) [
  | inl within ↦ (fields_of (drop (position_or_len is_space line + 1) line), fields_of-cut line within)
  | inr none ↦ ([], fields_of-last line none)
]
