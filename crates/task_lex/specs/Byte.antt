-- The bytes of a source, in ASCII.
use Rattle.std.specs.Prelude.{ℕ, Bool, false, ◌==◌, ◌||◌, not, List, [], ◌∷◌}
use Rattle.std.specs.Char.{is_ascii_alphabetic, is_ascii_digit}

abbrev pub tab : ℕ
tab = 9

abbrev pub line_feed : ℕ
line_feed = 10

abbrev pub carriage_return : ℕ
carriage_return = 13

abbrev pub space : ℕ
space = 32

-- `#`, with which a comment begins
abbrev pub hash : ℕ
hash = 35

-- `_`
abbrev pub underscore : ℕ
underscore = 95

-- a byte that may stand between tokens
abbrev pub is_blank : ℕ → Bool
is_blank byte = byte == space || byte == tab || byte == carriage_return || byte == line_feed

-- a letter or `_`
abbrev pub is_name_start : ℕ → Bool
is_name_start byte = is_ascii_alphabetic byte || byte == underscore

-- a letter, a digit or `_`
abbrev pub is_name_byte : ℕ → Bool
is_name_byte byte = is_name_start byte || is_ascii_digit byte

-- a byte that does not end a comment
abbrev pub is_in_comment : ℕ → Bool
is_in_comment byte = not (byte == line_feed)

-- the text begins with a byte that passes
abbrev pub begins : (ℕ → Bool) → List ℕ → Bool
begins passes [] = false
begins passes (byte ∷ text) = passes byte
