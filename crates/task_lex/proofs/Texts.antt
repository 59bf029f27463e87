-- The texts of keywords and symbols: they differ, and their first bytes tell their kind.
use Rattle.std.proofs.Common.{◌≡◌, ℕ, ◌<◌, ◌++◌, length, arith, lit<, false, Option, Some, List, [], ◌∷◌, refl, sym, ap, ◌∙◌}
use Rattle.std.specs.Prelude.{bytes_eq, find}
use Rattle.task_lex.specs.Byte.{begins, is_name_byte}
use Rattle.task_lex.specs.Spelling.{keyword_text, symbol_text}
use Rattle.task_lex.specs.Token.{IsName}
use Rattle.task_lex.proofs.Runs.{is_gap_byte}
use Rattle.task_lex.specs.declared.keyword.Keyword.{Keyword}
use Rattle.task_lex.specs.declared.keyword.Keyword.TheVariants as key
use Rattle.task_lex.specs.declared.symbol.Symbol.{Symbol}
use Rattle.task_lex.specs.declared.symbol.Symbol.TheVariants as sign

abbrev keywords : List Keyword
keywords = key.Nv ∷ key.Buffer ∷ key.Event ∷ key.Top ∷ key.Bottom ∷ key.Transaction ∷ key.Task ∷ key.Let ∷ key.If ∷ key.Else ∷ key.Repeat ∷ key.Next ∷ key.Halt ∷ key.Give ∷ []

abbrev symbols : List Symbol
symbols = sign.OpenBrace ∷ sign.CloseBrace ∷ sign.OpenParen ∷ sign.CloseParen ∷ sign.OpenBracket ∷ sign.CloseBracket ∷ sign.Semicolon ∷ sign.Comma ∷ sign.Assign ∷ sign.Equal ∷ sign.NotEqual ∷ sign.Below ∷ sign.AtMost ∷ sign.Above ∷ sign.AtLeast ∷ sign.ShiftLeft ∷ sign.ShiftRight ∷ sign.Plus ∷ sign.Minus ∷ sign.Times ∷ sign.Divide ∷ sign.Remainder ∷ sign.And ∷ sign.Or ∷ sign.Xor ∷ sign.Invert ∷ sign.Not ∷ []

abbrev keyword_from : List ℕ → Option Keyword
keyword_from text = find (λ keyword. bytes_eq text (keyword_text keyword)) keywords

abbrev symbol_from : List ℕ → Option Symbol
symbol_from text = find (λ symbol. bytes_eq text (symbol_text symbol)) symbols

keyword_from-keyword_text : (keyword : Keyword) → keyword_from (keyword_text keyword) ≡ Some keyword
keyword_from-keyword_text key.Nv = refl
keyword_from-keyword_text key.Buffer = refl
keyword_from-keyword_text key.Event = refl
keyword_from-keyword_text key.Top = refl
keyword_from-keyword_text key.Bottom = refl
keyword_from-keyword_text key.Transaction = refl
keyword_from-keyword_text key.Task = refl
keyword_from-keyword_text key.Let = refl
keyword_from-keyword_text key.If = refl
keyword_from-keyword_text key.Else = refl
keyword_from-keyword_text key.Repeat = refl
keyword_from-keyword_text key.Next = refl
keyword_from-keyword_text key.Halt = refl
keyword_from-keyword_text key.Give = refl

symbol_from-symbol_text : (symbol : Symbol) → symbol_from (symbol_text symbol) ≡ Some symbol
symbol_from-symbol_text sign.OpenBrace = refl
symbol_from-symbol_text sign.CloseBrace = refl
symbol_from-symbol_text sign.OpenParen = refl
symbol_from-symbol_text sign.CloseParen = refl
symbol_from-symbol_text sign.OpenBracket = refl
symbol_from-symbol_text sign.CloseBracket = refl
symbol_from-symbol_text sign.Semicolon = refl
symbol_from-symbol_text sign.Comma = refl
symbol_from-symbol_text sign.Assign = refl
symbol_from-symbol_text sign.Equal = refl
symbol_from-symbol_text sign.NotEqual = refl
symbol_from-symbol_text sign.Below = refl
symbol_from-symbol_text sign.AtMost = refl
symbol_from-symbol_text sign.Above = refl
symbol_from-symbol_text sign.AtLeast = refl
symbol_from-symbol_text sign.ShiftLeft = refl
symbol_from-symbol_text sign.ShiftRight = refl
symbol_from-symbol_text sign.Plus = refl
symbol_from-symbol_text sign.Minus = refl
symbol_from-symbol_text sign.Times = refl
symbol_from-symbol_text sign.Divide = refl
symbol_from-symbol_text sign.Remainder = refl
symbol_from-symbol_text sign.And = refl
symbol_from-symbol_text sign.Or = refl
symbol_from-symbol_text sign.Xor = refl
symbol_from-symbol_text sign.Invert = refl
symbol_from-symbol_text sign.Not = refl

-- no two keywords have one text
pub one_keyword : (keyword other : Keyword) → keyword_text keyword ≡ keyword_text other → keyword ≡ other
one_keyword keyword other same =
    let found : Some keyword ≡ Some other = sym (keyword_from-keyword_text keyword) ∙ ap keyword_from same ∙ keyword_from-keyword_text other in
    cc

-- no two symbols have one text
pub one_symbol : (symbol other : Symbol) → symbol_text symbol ≡ symbol_text other → symbol ≡ other
one_symbol symbol other same =
    let found : Some symbol ≡ Some other = sym (symbol_from-symbol_text symbol) ∙ ap symbol_from same ∙ symbol_from-symbol_text other in
    cc

-- a keyword is made as a name is
pub IsName-keyword_text : (keyword : Keyword) → IsName (keyword_text keyword)
IsName-keyword_text key.Nv = (refl, refl)
IsName-keyword_text key.Buffer = (refl, refl)
IsName-keyword_text key.Event = (refl, refl)
IsName-keyword_text key.Top = (refl, refl)
IsName-keyword_text key.Bottom = (refl, refl)
IsName-keyword_text key.Transaction = (refl, refl)
IsName-keyword_text key.Task = (refl, refl)
IsName-keyword_text key.Let = (refl, refl)
IsName-keyword_text key.If = (refl, refl)
IsName-keyword_text key.Else = (refl, refl)
IsName-keyword_text key.Repeat = (refl, refl)
IsName-keyword_text key.Next = (refl, refl)
IsName-keyword_text key.Halt = (refl, refl)
IsName-keyword_text key.Give = (refl, refl)

-- a symbol begins with a byte of its own
pub begins-symbol_text : (symbol : Symbol) (rest : List ℕ) → (begins is_name_byte (symbol_text symbol ++ rest) ≡ false) × (begins is_gap_byte (symbol_text symbol ++ rest) ≡ false)
begins-symbol_text sign.OpenBrace rest = (refl, refl)
begins-symbol_text sign.CloseBrace rest = (refl, refl)
begins-symbol_text sign.OpenParen rest = (refl, refl)
begins-symbol_text sign.CloseParen rest = (refl, refl)
begins-symbol_text sign.OpenBracket rest = (refl, refl)
begins-symbol_text sign.CloseBracket rest = (refl, refl)
begins-symbol_text sign.Semicolon rest = (refl, refl)
begins-symbol_text sign.Comma rest = (refl, refl)
begins-symbol_text sign.Assign rest = (refl, refl)
begins-symbol_text sign.Equal rest = (refl, refl)
begins-symbol_text sign.NotEqual rest = (refl, refl)
begins-symbol_text sign.Below rest = (refl, refl)
begins-symbol_text sign.AtMost rest = (refl, refl)
begins-symbol_text sign.Above rest = (refl, refl)
begins-symbol_text sign.AtLeast rest = (refl, refl)
begins-symbol_text sign.ShiftLeft rest = (refl, refl)
begins-symbol_text sign.ShiftRight rest = (refl, refl)
begins-symbol_text sign.Plus rest = (refl, refl)
begins-symbol_text sign.Minus rest = (refl, refl)
begins-symbol_text sign.Times rest = (refl, refl)
begins-symbol_text sign.Divide rest = (refl, refl)
begins-symbol_text sign.Remainder rest = (refl, refl)
begins-symbol_text sign.And rest = (refl, refl)
begins-symbol_text sign.Or rest = (refl, refl)
begins-symbol_text sign.Xor rest = (refl, refl)
begins-symbol_text sign.Invert rest = (refl, refl)
begins-symbol_text sign.Not rest = (refl, refl)

some_symbol_text : (symbol : Symbol) → 0 < length (symbol_text symbol)
some_symbol_text sign.OpenBrace = lit< tt
some_symbol_text sign.CloseBrace = lit< tt
some_symbol_text sign.OpenParen = lit< tt
some_symbol_text sign.CloseParen = lit< tt
some_symbol_text sign.OpenBracket = lit< tt
some_symbol_text sign.CloseBracket = lit< tt
some_symbol_text sign.Semicolon = lit< tt
some_symbol_text sign.Comma = lit< tt
some_symbol_text sign.Assign = lit< tt
some_symbol_text sign.Equal = lit< tt
some_symbol_text sign.NotEqual = lit< tt
some_symbol_text sign.Below = lit< tt
some_symbol_text sign.AtMost = lit< tt
some_symbol_text sign.Above = lit< tt
some_symbol_text sign.AtLeast = lit< tt
some_symbol_text sign.ShiftLeft = lit< tt
some_symbol_text sign.ShiftRight = lit< tt
some_symbol_text sign.Plus = lit< tt
some_symbol_text sign.Minus = lit< tt
some_symbol_text sign.Times = lit< tt
some_symbol_text sign.Divide = lit< tt
some_symbol_text sign.Remainder = lit< tt
some_symbol_text sign.And = lit< tt
some_symbol_text sign.Or = lit< tt
some_symbol_text sign.Xor = lit< tt
some_symbol_text sign.Invert = lit< tt
some_symbol_text sign.Not = lit< tt

-- a symbol has a text
pub no_empty_symbol : (symbol : Symbol) → symbol_text symbol ≡ [] → ⊥
no_empty_symbol symbol empty = omega (arith, some_symbol_text symbol, ap length empty)
