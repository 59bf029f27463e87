-- The fields of a line, one space between each two.
use Rattle.std.specs.Prelude.{ℕ, Bool, true, List, [], ◌∷◌, ◌==◌}
use Rattle.std.specs.List.{before_first, slice_split}

-- the byte between two fields
abbrev pub space : ℕ
space = 32

abbrev pub is_space : ℕ → Bool
is_space byte = byte == space

-- the fields of a line
abbrev pub fields_of : List ℕ → List (List ℕ)
fields_of line = slice_split is_space line

-- its bytes before its first space, or the whole line where it has none
abbrev pub first_word : List ℕ → List ℕ
first_word line = before_first is_space line

-- the byte with which a comment begins
abbrev pub hash : ℕ
hash = 35

-- the line says nothing: it is empty, or a comment
abbrev pub is_quiet : List ℕ → Bool
is_quiet [] = true
is_quiet (byte ∷ line) = byte == hash
