-- How many lines a text has, and how many bytes are in them.
use Rattle.std.proofs.Common.{ℕ, ◌≤◌, List, [], ◌∷◌, length, arith, inl, inr}
use Rattle.std.specs.Prelude.{◌==◌}
use Rattle.std.specs.List.{sum_by}
use Rattle.std.proofs.lemmas.Bool.{cases_Bool}
use Rattle.std.proofs.lemmas.List.Sums.{sum_by-cons}
use Rattle.coati_text.specs.Line.{line_feed, lines_of, with_front}

-- no more than the text has bytes
pub record AreLinesFew (lines : List (List ℕ)) (text : List ℕ) : Type 0 where
  pub count : length lines ≤ length text
  pub bytes : sum_by length lines ≤ length text

with_front-few : (byte : ℕ) (lines : List (List ℕ)) (text : List ℕ) → AreLinesFew lines text
    → AreLinesFew (with_front byte lines) (byte ∷ text)
with_front-few byte [] text few = record {
  count = omega arith;
  bytes =
      omega (arith, sum_by-cons (length {A = ℕ}) (byte ∷ []) []);
}
with_front-few byte (line ∷ more) text few = record {
  count = omega (arith, few.count);
  bytes = omega (
    arith,
    few.bytes,
    sum_by-cons (length {A = ℕ}) line more,
    sum_by-cons
        (length {A = ℕ}) (byte ∷ line) more,
  );
}

pub lines_of-few : (text : List ℕ) → AreLinesFew (lines_of text) text
lines_of-few [] = record { count = omega arith; bytes = omega arith }
lines_of-few (byte ∷ text) =
    let few = lines_of-few text in
    elim (cases_Bool (byte == line_feed)) [
      | inl same ↦ rw same (record {
        count = omega (arith, few.count);
        bytes =
            omega (arith, few.bytes, sum_by-cons (length {A = ℕ}) [] (lines_of text));
      })
      | inr other ↦ rw other (with_front-few byte (lines_of text) text few)
    ]
