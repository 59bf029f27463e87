-- A line, its end, and the lines behind it.
use Rattle.std.proofs.Common.{◌≡◌, ◌≢◌, ℕ, ◌+◌, ◌<◌, true, false, cond, not, List, [], ◌∷◌, ◌++◌, length, take, drop, refl, arith, suc, sym, ap, ◌∙◌, inl, inr}
use Rattle.std.specs.Prelude.{◌==◌, if◌then◌else◌}
use Rattle.std.proofs.lemmas.Bool.{ne_eqb}
use Rattle.std.proofs.lemmas.Bool.Decides.{eqb_tells}
use Rattle.coati_text.specs.Line.{lines_of, line_len, line_feed, with_front, HasNoEnd, IsTextOf, empty, unended, ended}

one_more : (byte len : ℕ) (text : List ℕ) → (take (1 + len) (byte ∷ text) ≡ byte ∷ take len text) × (drop (1 + len + 1) (byte ∷ text) ≡ drop (len + 1) text)
one_more byte len text =
    let e : 1 + len ≡ suc len = omega arith in
    let f : 1 + len + 1 ≡ suc (len + 1) = omega arith in
    (rw e refl, rw f refl)

-- the first line and those behind its end
pub lines_of-first : (text : List ℕ) → 0 < length text → lines_of text ≡ take (line_len text) text ∷ lines_of (drop (line_len text + 1) text)
lines_of-first [] some = absurd (omega arith)
lines_of-first (x ∷ []) some =
    elim (x == 10) as (λ v. (if v then [] ∷ [] else (x ∷ []) ∷ []) ≡ take (cond (not v) (1 + 0) 0) (x ∷ []) ∷ lines_of (drop (cond (not v) (1 + 0) 0 + 1) (x ∷ []))) [ true ↦ refl | false ↦ refl ]
lines_of-first (x ∷ y ∷ ys) some =
    let again = lines_of-first (y ∷ ys) (omega arith) in
    let k = line_len (y ∷ ys) in
    let step = one_more x k (y ∷ ys) in
    elim (x == 10) as (λ v. (if v then [] ∷ lines_of (y ∷ ys) else with_front x (lines_of (y ∷ ys))) ≡ take (cond (not v) (1 + k) 0) (x ∷ y ∷ ys) ∷ lines_of (drop (cond (not v) (1 + k) 0 + 1) (x ∷ y ∷ ys))) [
      | true ↦ refl
      | false ↦ rw (step.0, step.1, again) refl
    ]

-- one line fewer is left
pub fewer_lines : (text : List ℕ) → 0 < length text → length (lines_of (drop (line_len text + 1) text)) < length (lines_of text)
fewer_lines text some = rw (lines_of-first text some) (omega arith)

-- a byte that ends no line stands in front of the first line
lines_of-cons : (byte : ℕ) (text : List ℕ) → byte ≢ line_feed → lines_of (byte ∷ text) ≡ with_front byte (lines_of text)
lines_of-cons byte text other = rw (ne_eqb byte line_feed other) refl

-- a line with its end, and the lines behind it
pub lines_of-ended : (line rest : List ℕ) → HasNoEnd line → lines_of (line ++ line_feed ∷ rest) ≡ line ∷ lines_of rest
lines_of-ended [] rest none = refl
lines_of-ended (byte ∷ line) rest none =
    lines_of-cons byte (line ++ line_feed ∷ rest) none.0 ∙ ap (with_front byte) (lines_of-ended line rest none.1)

-- a line without an end
pub lines_of-unended : (line : List ℕ) → HasNoEnd line → line ≢ [] → lines_of line ≡ line ∷ []
lines_of-unended [] none some = absurd (some refl)
lines_of-unended (byte ∷ []) none some = lines_of-cons byte [] none.0
lines_of-unended (byte ∷ next ∷ line) none some =
    lines_of-cons byte (next ∷ line) none.0 ∙ ap (with_front byte) (lines_of-unended (next ∷ line) none.1 (λ e. cc))

-- what a text is made of are its lines
pub lines_of-is : (lines : List (List ℕ)) (text : List ℕ) → IsTextOf lines text → lines ≡ lines_of text
lines_of-is _ _ empty = refl
lines_of-is _ _ (unended line none some) = sym (lines_of-unended line none some)
lines_of-is _ _ (ended line more rest none behind) =
    ap (λ (others : List (List ℕ)). line ∷ others) (lines_of-is more rest behind) ∙ sym (lines_of-ended line rest none)

-- one more byte in front of the first line
text_of-front : (byte : ℕ) (lines : List (List ℕ)) (text : List ℕ) → byte ≢ line_feed → IsTextOf lines text → IsTextOf (with_front byte lines) (byte ∷ text)
text_of-front byte _ _ other empty = unended (byte ∷ []) (other, tt) (λ e. cc)
text_of-front byte _ _ other (unended line none some) = unended (byte ∷ line) (other, none) (λ e. cc)
text_of-front byte _ _ other (ended line more rest none behind) = ended (byte ∷ line) more rest (other, none) behind

-- a text is made of its lines
pub IsTextOf-lines_of : (text : List ℕ) → IsTextOf (lines_of text) text
IsTextOf-lines_of [] = empty
IsTextOf-lines_of (byte ∷ text) = elim (eqb_tells byte line_feed) [
  | inl same ↦ rw (same.0, same.1) (ended [] (lines_of text) text tt (IsTextOf-lines_of text))
  | inr other ↦ rw other.0 (text_of-front byte (lines_of text) text other.1 (IsTextOf-lines_of text))
]
