-- Which texts have no line within another: no byte of a printed line ends it.
use Rattle.std.proofs.Common.{◌≡◌, ◌≢◌, ℕ, Bool, true, false, not, List, [], ◌∷◌, ◌++◌, refl, sym, ap, subst, ◌∙◌, inl, inr, append_assoc}
use Rattle.std.specs.Prelude.{◌==◌, ◌⊎◌}
use Rattle.std.specs.List.{AllByRecursion, list_all}
use Rattle.std.proofs.lemmas.Bool.{and_from, and_parts}
use Rattle.std.proofs.lemmas.List.{append-nil, append_cancel_right}
use Rattle.coati_text.specs.Line.{HasNoEnd, IsTextOf, ended, line_feed, lines_of, unended, empty}
use Rattle.coati_text.proofs.LineEnds.{IsTextOf-lines_of, lines_of-is}
use Rattle.trace_out.specs.Printed.{text_of}

-- the byte ends no line
abbrev pub is_inner : ℕ → Bool
is_inner byte = not (byte == line_feed)

-- nor does any of these
abbrev pub IsInner : List ℕ → Type 0
IsInner text = list_all is_inner text ≡ true

pub inner-append : (front back : List ℕ) → IsInner front → IsInner back → IsInner (front ++ back)
inner-append [] back one two = two
inner-append (byte ∷ front) back one two =
    let parts = and_parts (is_inner byte) (list_all is_inner front) one in
    and_from (is_inner byte) (list_all is_inner (front ++ back)) parts.0
    (inner-append front back parts.1 two)

no_end : (text : List ℕ) → IsInner text → HasNoEnd text
no_end [] inner = tt
no_end (byte ∷ text) inner =
    let parts = and_parts (is_inner byte) (list_all is_inner text) inner in
    (λ same. let e : false ≡ true = rw same at parts.0 in cc, no_end text parts.1)

-- lines without an end among their bytes
abbrev pub AreInner : List (List ℕ) → Type 0
AreInner lines = AllByRecursion IsInner lines

-- a line, and lines behind it
text_of-cons : (line : List ℕ) (more : List (List ℕ)) → text_of (line ∷ more) ≡ line
    ++ line_feed ∷ text_of more
text_of-cons line more = append_assoc line (line_feed ∷ []) (text_of more)

-- whole lines are the lines of their text
whole-text : (lines : List (List ℕ)) → AreInner lines → IsTextOf lines (text_of lines)
whole-text [] inner = empty
whole-text (line ∷ more) inner =
    subst (IsTextOf (line ∷ more)) (sym (text_of-cons line more)) (ended line more (text_of more)
    (no_end line inner.0) (whole-text more inner.1))

-- what stands before the last end
record LastEnd (text : List ℕ) : Type 0 where
  front : List ℕ
  is : text ≡ front ++ line_feed ∷ []

last_end : (line : List ℕ) (more : List (List ℕ)) → LastEnd (text_of (line ∷ more))
last_end line [] = record { front = line; is = append-nil (line ++ line_feed ∷ []) }
last_end line (next ∷ more) =
    let rest = last_end next more in
    record {
      front = line ++ line_feed ∷ [] ++ rest.front;
      is =
          ap (λ (t : List ℕ). line ++ line_feed ∷ [] ++ t) rest.is
          ∙ sym (append_assoc (line ++ line_feed ∷ []) rest.front (line_feed ∷ []));
    }

-- the last of these lines is not empty
abbrev pub EndsSome : List (List ℕ) → Type 0
EndsSome [] = ⊥
EndsSome (line ∷ []) = line ≢ []
EndsSome (line ∷ next ∷ more) = EndsSome (next ∷ more)

-- nor is another text of them, where the last end is missing
unended-text : (lines : List (List ℕ)) (text : List ℕ) → AreInner lines → EndsSome lines → text
    ++ line_feed ∷ [] ≡ text_of lines → IsTextOf lines text
unended-text [] text inner some is = absurd some
unended-text (line ∷ []) text inner some is =
    let same : text ≡ line = append_cancel_right text line (line_feed ∷ [])
    (is ∙ append-nil (line ++ line_feed ∷ [])) in
    subst (IsTextOf (line ∷ [])) (sym same) (unended line (no_end line inner.0) some)
unended-text (line ∷ next ∷ more) text inner some is =
    let last = last_end next more in
    let front = line ++ line_feed ∷ [] ++ last.front in
    let whole : text_of (line ∷ next ∷ more) ≡ front ++ line_feed ∷ [] =
    ap (λ (t : List ℕ). line ++ line_feed ∷ [] ++ t) last.is
    ∙ sym (append_assoc (line ++ line_feed ∷ []) last.front (line_feed ∷ [])) in
    let same : text ≡ front = append_cancel_right text front (line_feed ∷ []) (is ∙ whole) in
    let flat : front ≡ line ++ line_feed ∷ last.front = append_assoc line
    (line_feed ∷ []) last.front in
    subst (IsTextOf (line ∷ next ∷ more)) (sym (same ∙ flat))
    (ended line (next ∷ more) last.front (no_end line inner.0)
    (unended-text (next ∷ more) last.front inner.1 some (sym last.is)))

-- the lines of a text that is these, but for its last end
pub lines_of-text : (lines : List (List ℕ)) (text : List ℕ) → AreInner lines → EndsSome lines
    → (text ≡ text_of lines) ⊎ (text ++ line_feed ∷ [] ≡ text_of lines)
    → lines_of text ≡ lines
lines_of-text lines text inner some (inl whole) =
    sym (lines_of-is lines text (subst (IsTextOf lines) (sym whole) (whole-text lines inner)))
lines_of-text lines text inner some (inr missing) =
    sym (lines_of-is lines text (unended-text lines text inner some missing))

-- a text is its lines, but for its last end
text-made : (lines : List (List ℕ)) (text : List ℕ) → IsTextOf lines text → (text ≡ text_of lines)
    ⊎ (text ++ line_feed ∷ [] ≡ text_of lines)
text-made _ _ empty = inl refl
text-made _ _ (unended line none some) = inr (sym (append-nil (line ++ line_feed ∷ [])))
text-made _ _ (ended line more rest none behind) = elim (text-made more rest behind) [
  | inl whole ↦ inl (ap (λ (t : List ℕ). line ++ line_feed ∷ t) whole
      ∙ sym (text_of-cons line more))
  | inr missing ↦ inr (append_assoc line (line_feed ∷ rest) (line_feed ∷ [])
      ∙ ap (λ (t : List ℕ). line ++ line_feed ∷ t) missing ∙ sym (text_of-cons line more))
]

pub text-of-lines : (text : List ℕ) → (text ≡ text_of (lines_of text))
    ⊎ (text ++ line_feed ∷ [] ≡ text_of (lines_of text))
text-of-lines text = text-made (lines_of text) text (IsTextOf-lines_of text)
