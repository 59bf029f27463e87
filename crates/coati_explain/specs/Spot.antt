-- Where a place of a text lies: the line, counted from 1, and the column, which is 1 at the line's
-- first byte.
use Rattle.std.specs.Prelude.{◌≡◌, ℕ, ◌+◌, ◌-◌, ◌≤◌, List, [], ◌∷◌, ◌++◌, length, nat_le, if◌then◌else◌}
use Rattle.coati_text.specs.Line.{lines_of}
use Rattle.coati_explain.specs.declared.spot.Spot.{Spot}

abbrev pub spot : ℕ → ℕ → Spot
spot line column = record { line = line; column = column }

-- where a place lies among lines, of which the first has this number; a place behind them all has
-- the last spot that was passed
abbrev pub spot_among : Spot → ℕ → List (List ℕ) → ℕ → Spot
spot_among passed number [] at = passed
spot_among passed number (line ∷ more) at =
    if nat_le at (length line) then spot number (at + 1)
    else spot_among (spot number (length line + 1)) (number + 1) more (at - (length line + 1))

-- where a place of the text lies; its end lies behind the last byte of its last line
abbrev pub spot_at : List ℕ → ℕ → Spot
spot_at text at = spot_among (spot 1 1) 1 (lines_of text) at

-- the line of a number, counted from 1, among these
abbrev pub line_among : List (List ℕ) → ℕ → List ℕ
line_among [] number = []
line_among (line ∷ more) number = if nat_le number 1 then line else line_among more (number - 1)

-- the line of a number, without its end; empty where there is none
abbrev pub line_of : List ℕ → ℕ → List ℕ
line_of text number = line_among (lines_of text) number

-- how many bytes these lines have, each with its end
abbrev pub extent : List (List ℕ) → ℕ
extent [] = 0
extent (line ∷ more) = length line + 1 + extent more

-- the place is one of a line or of its end, or it is the end of the text, behind its last line
pub data LiesAt (text : List ℕ) (at : ℕ) (here : Spot) : Type 0 where
  in_line : (front : List (List ℕ)) (line : List ℕ) (more : List (List ℕ)) →
      lines_of text ≡ front ++ line ∷ more
      → here.line ≡ length front + 1 → at + 1 ≡ extent front + here.column → 1 ≤ here.column →
      here.column ≤ length line + 1
      → LiesAt text at here
  at_end : (front : List (List ℕ)) (line : List ℕ) → lines_of text ≡ front ++ line ∷ [] →
      at ≡ length text
      → here.line ≡ length front + 1 → here.column ≡ length line + 1 → LiesAt text at here
  in_nothing : text ≡ [] → at ≡ 0 → here ≡ spot 1 1 → LiesAt text at here
