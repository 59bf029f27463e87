-- The lines of an input are those of its source, the line `%%`, and those of its trace.
use Rattle.std.proofs.Common.{◌≡◌, ℕ, ◌+◌, ◌≤◌, ◌<◌, true, List, [], ◌∷◌, ◌++◌, length, refl, ap, ◌∙◌, arith, inl, inr, append_assoc, ltb-true}
use Rattle.std.specs.Prelude.{◌==◌}
use Rattle.std.proofs.lemmas.Bool.{cases_Bool}
use Rattle.coati_text.specs.Line.{line_feed, lines_of, with_front}
use Rattle.coati_text.proofs.LineEnds.{lines_of-first}
use Rattle.coati_top.specs.Divided.{HasEnds, IsDivided, divider, second_part, source_part, empty, ended, at_line, at_last, nowhere}
use Rattle.coati_top.proofs.Dividers.{IsDivided-parts}
use Rattle.coati_explain.specs.Answer.{has_trace}
use Rattle.coati_explain.specs.Spot.{line_of}
use Rattle.coati_explain.specs.Trace.{divider_line}
use Rattle.coati_explain.proofs.Spots.{line_among-behind, line_among-later}

with_front-append : (byte : ℕ) (lines more : List (List ℕ)) → 0 < length lines → with_front byte (lines ++ more) ≡ with_front byte lines ++ more
with_front-append byte [] more some = absurd (omega arith)
with_front-append byte (line ∷ lines) more some = refl

some_line : (text : List ℕ) → 0 < length text → 0 < length (lines_of text)
some_line text some = rw (lines_of-first text some) (omega arith)

some_bytes : (front : List ℕ) → 0 < length (front ++ line_feed ∷ [])
some_bytes [] = omega arith
some_bytes (byte ∷ front) = omega arith

-- the lines of a text with an end, and of what stands behind it
ended_lines : (front rest : List ℕ) → lines_of (front ++ line_feed ∷ rest) ≡ lines_of (front ++ line_feed ∷ []) ++ lines_of rest
ended_lines [] rest = refl
ended_lines (byte ∷ front) rest = elim (cases_Bool (byte == line_feed)) [
  | inl same ↦ rw same (ap (λ (lines : List (List ℕ)). [] ∷ lines) (ended_lines front rest))
  | inr other ↦ rw other (ap (with_front byte) (ended_lines front rest)
      ∙ with_front-append byte (lines_of (front ++ line_feed ∷ [])) (lines_of rest) (some_line (front ++ line_feed ∷ []) (some_bytes front)))
]

lines_of-parts : (source rest : List ℕ) → HasEnds source → lines_of (source ++ rest) ≡ lines_of source ++ lines_of rest
lines_of-parts source rest (empty is) = rw is refl
lines_of-parts source rest (ended front is) = rw is (rw append_assoc (ended_lines front rest))

-- the lines of an input of two parts
laid_out : (input source second : List ℕ) → IsDivided input source second → length source < length input
    → lines_of input ≡ lines_of source ++ divider ∷ lines_of second
laid_out input source second (at_line none ends is) shorter = rw is (lines_of-parts source (divider ++ line_feed ∷ second) ends)
laid_out input source second (at_last none ends is no_second) shorter = rw (is, no_second) (lines_of-parts source divider ends)
laid_out input source second (nowhere none same no_second) shorter = absurd (omega (arith, ap length same))

source_shorter : (input : List ℕ) → has_trace input ≡ true → length (source_part input) < length input
source_shorter input has = ltb-true (length (source_part input)) (length input) has

lines_of-input : (input : List ℕ) → has_trace input ≡ true → lines_of input ≡ lines_of (source_part input) ++ divider ∷ lines_of (second_part input)
lines_of-input input has = laid_out input (source_part input) (second_part input) (IsDivided-parts input) (source_shorter input has)

pub line_of-divider : (input : List ℕ) → has_trace input ≡ true → line_of input (divider_line input) ≡ divider
line_of-divider input has = rw (lines_of-input input has) (line_among-behind (lines_of (source_part input)) divider (lines_of (second_part input)))

pub line_of-trace : (input : List ℕ) (number : ℕ) → has_trace input ≡ true → 1 ≤ number
    → line_of input (divider_line input + number) ≡ line_of (second_part input) number
line_of-trace input number has some =
    rw (lines_of-input input has) (line_among-later (lines_of (source_part input)) divider (lines_of (second_part input)) number some)
