-- Lines of words and numbers.
use Rattle.std.specs.Prelude.{ℕ, List, [], ◌∷◌, ◌++◌, codes, decimal}
use Rattle.coati_text.specs.Line.{line_feed}

-- a word, and the number behind it
abbrev pub word_and_number : List ℕ → ℕ → List ℕ
word_and_number word number = word ++ codes " " ++ decimal number

-- a line with its end
abbrev pub with_end : List ℕ → List ℕ
with_end line = line ++ line_feed ∷ []

-- a word and a number on a line
abbrev pub number_line : List ℕ → ℕ → List ℕ
number_line word number = with_end (word_and_number word number)
