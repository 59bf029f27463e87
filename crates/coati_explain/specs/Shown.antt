-- How bytes of an input are shown, and the two lines that show a place.
use Rattle.std.specs.Prelude.{ℕ, ◌-◌, ◌==◌, ◌&&◌, Bool, List, ◌++◌, codes, map, nat_le, replicate, if◌then◌else◌}
use Rattle.task_lex.specs.Byte.{space, tab}

-- `?`
abbrev pub question_mark : ℕ
question_mark = 63

-- a byte from the blank to `~`
abbrev pub is_printable : ℕ → Bool
is_printable byte = nat_le space byte && nat_le byte 126

-- a tab is shown as one blank, so that each byte is as wide as any other
abbrev pub shown_byte : ℕ → ℕ
shown_byte byte = if byte == tab then space else (if is_printable byte then byte
    else question_mark)

abbrev pub shown : List ℕ → List ℕ
shown bytes = map shown_byte bytes

-- a line, a little to the right
abbrev pub shown_line : List ℕ → List ℕ
shown_line line = codes "    " ++ shown line ++ codes "\n"

-- a caret below the column of the line that is shown above it
abbrev pub caret_line : ℕ → List ℕ
caret_line column = codes "    " ++ replicate (column - 1) space ++ codes "^\n"

-- a word of the input within a text
abbrev pub quoted : List ℕ → List ℕ
quoted word = codes "`" ++ shown word ++ codes "`"

-- a word of the input between two texts
abbrev pub around : List ℕ → List ℕ → List ℕ → List ℕ
around front word back = front ++ quoted word ++ back
