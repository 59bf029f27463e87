-- The lines of a text, without their ends. A line ends with one LF; a last line without an end is
-- a line.
use Rattle.std.specs.Prelude.{ℕ, ◌≢◌, List, [], ◌∷◌, ◌++◌, ◌==◌, if◌then◌else◌, not}
use Rattle.std.specs.List.{prefix_len, AllByRecursion}

-- the byte that ends a line
abbrev pub line_feed : ℕ
line_feed = 10

-- the lines of a text in front of which one more byte stands, which ends no line
abbrev pub with_front : ℕ → List (List ℕ) → List (List ℕ)
with_front byte [] = (byte ∷ []) ∷ []
with_front byte (line ∷ more) = (byte ∷ line) ∷ more

-- the lines of a text
abbrev pub lines_of : List ℕ → List (List ℕ)
lines_of [] = []
lines_of (byte ∷ text) = if byte == line_feed then [] ∷ lines_of text
    else with_front byte (lines_of text)

-- how many bytes stand before the first end
abbrev pub line_len : List ℕ → ℕ
line_len text = prefix_len (λ byte. not (byte == line_feed)) text

-- no line ends within these bytes
abbrev pub HasNoEnd : List ℕ → Type 0
HasNoEnd line = AllByRecursion (λ byte. byte ≢ line_feed) line

-- the text is these lines, each with its end, which a last line that is not empty may lack
pub data IsTextOf : List (List ℕ) → List ℕ → Type 0 where
  empty : IsTextOf [] []
  unended : (line : List ℕ) → HasNoEnd line → line ≢ [] → IsTextOf (line ∷ []) line
  ended : (line : List ℕ) (more : List (List ℕ)) (rest : List ℕ) → HasNoEnd line →
      IsTextOf more rest
      → IsTextOf (line ∷ more) (line ++ line_feed ∷ rest)
