-- How many lines a text has.
use Rattle.std.proofs.Common.{ℕ, ◌+◌, ◌≤◌, List, [], ◌∷◌, length, arith, inl, inr}
use Rattle.std.specs.Prelude.{◌==◌}
use Rattle.std.proofs.lemmas.Bool.{cases_Bool}
use Rattle.coati_text.specs.Line.{line_feed, lines_of, with_front}

with_front-at_most : (byte : ℕ) (lines : List (List ℕ)) → length (with_front byte lines) ≤ 1 + length lines
with_front-at_most byte [] = omega arith
with_front-at_most byte (line ∷ more) = omega arith

-- no more than it has bytes
pub lines_of-at_most : (text : List ℕ) → length (lines_of text) ≤ length text
lines_of-at_most [] = omega arith
lines_of-at_most (byte ∷ text) = elim (cases_Bool (byte == line_feed)) [
  | inl same ↦ rw same (omega (arith, lines_of-at_most text))
  | inr other ↦ rw other (omega (arith, lines_of-at_most text, with_front-at_most byte (lines_of text)))
]
