-- What a token's text is, and that no longer token stands in its place.
use Rattle.std.specs.Prelude.{ℕ, ◌≡◌, ◌≢◌, ◌≤◌, ◌<◌, ◌⊎◌, true, false, List, [], ◌∷◌, ◌++◌, length}
use Rattle.std.specs.Char.{is_ascii_digit}
use Rattle.std.specs.List.{list_all}
use Rattle.std.specs.Str.Parse.{digits_value}
use Rattle.task_lex.specs.Byte.{begins, is_name_start, is_name_byte}
use Rattle.task_lex.specs.Spelling.{keyword_text, symbol_text}
use Rattle.task_lex.specs.declared.keyword.Keyword.{Keyword}
use Rattle.task_lex.specs.declared.symbol.Symbol.{Symbol}
use Rattle.task_lex.specs.declared.token.TokenKind.{TokenKind}
use Rattle.task_lex.specs.declared.token.TokenKind.TheVariants as kind

-- a letter or `_`, and then letters, digits and `_`
abbrev pub IsName : List ℕ → Type 0
IsName [] = ⊥
IsName (first ∷ more) = (is_name_start first ≡ true) × (list_all is_name_byte more ≡ true)

-- one digit or more
abbrev pub IsNumeral : List ℕ → Type 0
IsNumeral [] = ⊥
IsNumeral (digit ∷ more) = list_all is_ascii_digit (digit ∷ more) ≡ true

-- the greatest number of a source
abbrev pub greatest_number : ℕ
greatest_number = 65535

-- the word is the text of a token of this kind
abbrev pub Spells : TokenKind → List ℕ → Type 0
Spells kind.Name word = IsName word × ((keyword : Keyword) → keyword_text keyword ≢ word)
Spells (kind.Number value) word = IsNumeral word × (digits_value 10 word ≡ value)
    × (value ≤ greatest_number)
Spells (kind.Keyword keyword) word = keyword_text keyword ≡ word
Spells (kind.Symbol symbol) word = symbol_text symbol ≡ word

-- the symbol stands at the front of the text
pub record Fits (symbol : Symbol) (text : List ℕ) : Type 0 where
  pub rest : List ℕ
  pub here : text ≡ symbol_text symbol ++ rest

-- no longer one fits: what stands behind the word does not go on with it
abbrev pub IsLongest : TokenKind → List ℕ → List ℕ → Type 0
IsLongest (kind.Symbol symbol) word rest =
    (other : Symbol) → Fits other (word ++ rest) → length (symbol_text other) ≤ length word
IsLongest _ word rest = begins is_name_byte rest ≡ false

-- the word is a token of this kind where this rest stands behind it
pub record IsToken (kind : TokenKind) (word rest : List ℕ) : Type 0 where
  pub spelled : Spells kind word
  pub longest : IsLongest kind word rest

-- the longest run of digits at the front is no number: its value is too great, or a letter or `_`
-- follows it directly
pub record IsBadNumber (text : List ℕ) : Type 0 where
  pub digits : List ℕ
  pub rest : List ℕ
  pub here : text ≡ digits ++ rest
  pub numeral : IsNumeral digits
  pub longest : begins is_ascii_digit rest ≡ false
  pub fault : (greatest_number < digits_value 10 digits) ⊎ (begins is_name_start rest ≡ true)
