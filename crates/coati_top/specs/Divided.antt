-- The two parts of an input: what stands before its first line that is exactly `%%`, and what
-- follows that line. An input without such a line is its first part, and the second is empty.
use Rattle.std.specs.Prelude.{ℕ, ◌≡◌, ◌≢◌, ◌+◌, ◌==◌, ◌&&◌, Bool, true, false, List, [], ◌∷◌, ◌++◌, All, take, drop, codes, if◌then◌else◌}
use Rattle.coati_text.specs.Line.{line_feed, lines_of}

-- the byte `%`
abbrev pub percent : ℕ
percent = 37

-- the text begins with the line `%%`, which may be its last without an end
abbrev pub begins_divider : List ℕ → Bool
begins_divider [] = false
begins_divider (a ∷ []) = false
begins_divider (a ∷ b ∷ []) = (a == percent) && (b == percent)
begins_divider (a ∷ b ∷ c ∷ more) = (a == percent) && (b == percent) && (c == line_feed)

-- how many bytes of a text stand before the first such line, where a line begins at its front or
-- doesn't
abbrev pub source_length_from : Bool → List ℕ → ℕ
source_length_from begins_line [] = 0
source_length_from begins_line (byte ∷ more) =
    if begins_line && begins_divider (byte ∷ more) then 0
    else 1 + source_length_from (byte == line_feed) more

abbrev pub source_length : List ℕ → ℕ
source_length input = source_length_from true input

abbrev pub source_part : List ℕ → List ℕ
source_part input = take (source_length input) input

abbrev pub second_part : List ℕ → List ℕ
second_part input = drop (source_length input + 3) input

-- the line that ends the source, without its end
abbrev pub divider : List ℕ
divider = codes "%%"

-- no line of the text is exactly `%%`
abbrev pub HasNoDivider : List ℕ → Type 0
HasNoDivider text = All (λ line. line ≢ divider) (lines_of text)

-- each line of the text has its end
pub data HasEnds (text : List ℕ) : Type 0 where
  empty : text ≡ [] → HasEnds text
  ended : (front : List ℕ) → text ≡ front ++ line_feed ∷ [] → HasEnds text

-- an input is a source of lines that are not `%%`, then the line `%%` with its end or as the last
-- one without an end, then a second part; or it has no such line, and is its source
pub data IsDivided (input source second : List ℕ) : Type 0 where
  at_line : HasNoDivider source → HasEnds source →
      input ≡ source ++ (divider ++ line_feed ∷ second) → IsDivided input source second
  at_last : HasNoDivider source → HasEnds source → input ≡ source ++ divider → second ≡ [] →
      IsDivided input source second
  nowhere : HasNoDivider input → source ≡ input → second ≡ [] → IsDivided input source second
