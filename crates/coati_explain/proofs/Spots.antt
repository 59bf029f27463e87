-- A place of a text lies at the spot that is told.
use Rattle.std.proofs.Common.{◌≡◌, ℕ, ◌+◌, ◌-◌, ◌≤◌, ◌<◌, false, List, [], ◌∷◌, ◌++◌, length, refl, ap, ◌∙◌, arith, inl, inr}
use Rattle.std.specs.Prelude.{◌==◌, nat_le}
use Rattle.std.proofs.lemmas.Bool.{cases_Bool}
use Rattle.std.proofs.lemmas.Bool.Decides.{leb_tells}
use Rattle.coati_text.specs.Line.{line_feed, lines_of, with_front}
use Rattle.coati_explain.specs.declared.spot.Spot.{Spot}
use Rattle.coati_explain.specs.Spot.{LiesAt, line_among, line_of, spot, spot_among, spot_at, extent}
use Rattle.coati_explain.specs.Spot.LiesAt.{in_line, at_end, in_nothing}

-- a number that is not at most another
le_no : (a b : ℕ) → b < a → nat_le a b ≡ false
le_no a b above = elim (leb_tells a b) [ inl here ↦ absurd (omega arith) | inr there ↦ there.0 ]

-- where a place lies among lines, of which the first has this number, or that it is behind them all
data Lies (passed : Spot) (number : ℕ) (lines : List (List ℕ)) (at : ℕ) (here : Spot) : Type 0 where
  within : (front : List (List ℕ)) (line : List ℕ) (more : List (List ℕ)) → lines ≡ front ++ line ∷ more
      → here.line ≡ length front + number → at + 1 ≡ extent front + here.column → 1 ≤ here.column → here.column ≤ length line + 1
      → Lies passed number lines at here
  behind : (front : List (List ℕ)) (line : List ℕ) → lines ≡ front ++ line ∷ [] → at ≡ extent lines
      → here.line ≡ length front + number → here.column ≡ length line + 1 → Lies passed number lines at here
  none : lines ≡ [] → at ≡ 0 → here ≡ passed → Lies passed number lines at here

-- one more line in front
further : (passed : Spot) (number : ℕ) (line : List ℕ) (more : List (List ℕ)) (at : ℕ) (here : Spot) → length line < at
    → Lies (spot number (length line + 1)) (number + 1) more (at - (length line + 1)) here → Lies passed number (line ∷ more) at here
further passed number line more at here later (within front other rest is numbered placed least most) =
    within (line ∷ front) other rest (ap (λ (lines : List (List ℕ)). line ∷ lines) is) (omega arith) (omega arith) least most
further passed number line more at here later (behind front other is whole numbered column) =
    behind (line ∷ front) other (ap (λ (lines : List (List ℕ)). line ∷ lines) is) (omega arith) (omega arith) column
further passed number line more at here later (none is first same) =
    behind [] line (ap (λ (lines : List (List ℕ)). line ∷ lines) is) (omega (arith, ap extent is)) (ap (λ (s : Spot). s.line) same ∙ omega arith) (ap (λ (s : Spot). s.column) same)

lies : (passed : Spot) (number : ℕ) (lines : List (List ℕ)) (at : ℕ) → at ≤ extent lines → Lies passed number lines at (spot_among passed number lines at)
lies passed number [] at most = none refl (omega arith) refl
lies passed number (line ∷ more) at most = elim (leb_tells at (length line)) [
  | inl here ↦ rw here.0 (within [] line more refl (omega arith) (omega arith) (omega arith) (omega arith))
  | inr later ↦ rw later.0 (further passed number line more at (spot_among (spot number (length line + 1)) (number + 1) more (at - (length line + 1))) (omega arith)
      (lies (spot number (length line + 1)) (number + 1) more (at - (length line + 1)) (omega arith)))
]

with_front-extent : (byte : ℕ) (lines : List (List ℕ)) → 1 + extent lines ≤ extent (with_front byte lines)
with_front-extent byte [] = omega arith
with_front-extent byte (line ∷ more) = omega arith

-- a text has no more bytes than its lines with their ends
lines_of-extent : (text : List ℕ) → length text ≤ extent (lines_of text)
lines_of-extent [] = omega arith
lines_of-extent (byte ∷ text) = elim (cases_Bool (byte == line_feed)) [
  | inl same ↦ rw same (omega (arith, lines_of-extent text))
  | inr other ↦ rw other (omega (arith, lines_of-extent text, with_front-extent byte (lines_of text)))
]

nothing_left : (text : List ℕ) → length text ≤ 0 → text ≡ []
nothing_left [] few = refl
nothing_left (byte ∷ text) few = absurd (omega arith)

placed : (text : List ℕ) (at : ℕ) → at ≤ length text → Lies (spot 1 1) 1 (lines_of text) at (spot_at text at) → LiesAt text at (spot_at text at)
placed text at most (within front line more is numbered spaced least greatest) = in_line front line more is numbered spaced least greatest
placed text at most (behind front line is whole numbered column) = at_end front line is (omega (arith, lines_of-extent text)) numbered column
placed text at most (none is first same) =
    let few : length text ≤ 0 = omega (arith, lines_of-extent text, ap extent is) in
    in_nothing (nothing_left text few) first same

pub LiesAt-spot_at : (text : List ℕ) (at : ℕ) → at ≤ length text → LiesAt text at (spot_at text at)
LiesAt-spot_at text at most = placed text at most (lies (spot 1 1) 1 (lines_of text) at (omega (arith, lines_of-extent text)))

-- the line with so many lines before it
pub line_among-behind : (front : List (List ℕ)) (line : List ℕ) (more : List (List ℕ)) → line_among (front ++ line ∷ more) (length front + 1) ≡ line
line_among-behind [] line more = refl
line_among-behind (first ∷ front) line more =
    let above : nat_le (length (first ∷ front) + 1) 1 ≡ false = le_no (length (first ∷ front) + 1) 1 (omega arith) in
    let less : length (first ∷ front) + 1 - 1 ≡ length front + 1 = omega arith in
    rw (above, less) (line_among-behind front line more)

pub line_of-behind : (text : List ℕ) (front : List (List ℕ)) (line : List ℕ) (more : List (List ℕ)) → lines_of text ≡ front ++ line ∷ more
    → line_of text (length front + 1) ≡ line
line_of-behind text front line more is = rw is (line_among-behind front line more)

-- a line behind others and one more
pub line_among-later : (front : List (List ℕ)) (line : List ℕ) (more : List (List ℕ)) (number : ℕ) → 1 ≤ number
    → line_among (front ++ line ∷ more) (length front + 1 + number) ≡ line_among more number
line_among-later [] line more number some =
    let above : nat_le (0 + 1 + number) 1 ≡ false = le_no (0 + 1 + number) 1 (omega arith) in
    let less : 0 + 1 + number - 1 ≡ number = omega arith in
    rw (above, less) refl
line_among-later (first ∷ front) line more number some =
    let above : nat_le (length (first ∷ front) + 1 + number) 1 ≡ false = le_no (length (first ∷ front) + 1 + number) 1 (omega arith) in
    let less : length (first ∷ front) + 1 + number - 1 ≡ length front + 1 + number = omega arith in
    rw (above, less) (line_among-later front line more number some)
