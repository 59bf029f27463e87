-- What stands first where reading stands.
use Rattle.std.specs.Prelude.{ℕ, ◌≡◌, ◌+◌, ◌<◌, List, [], ◌∷◌, Bool, true, false, Option, Some, None, MatchOption, Result, MatchResult}
use Rattle.coati_word.specs.declared.operator.Op.{Op}
use Rattle.coati_word.specs.declared.operator.Op1.{Op1}
use Rattle.task_lex.specs.declared.keyword.Keyword.{Keyword}
use Rattle.task_lex.specs.declared.symbol.Symbol.{Symbol}
use Rattle.task_lex.specs.declared.token.TokenKind.{TokenKind}
use Rattle.task_lex.specs.declared.token.TokenKind.TheVariants as kind
use Rattle.task_parse.specs.Lexeme.{Lexeme}
use Rattle.task_parse.specs.Machine.{Part, Spot, Verdict, judge, same_sign, same_word, seen, told}
use Rattle.task_parse.specs.Operators.{level, operator_of, unary_of}
use Rattle.task_parse.specs.declared.fault.ParseFault.{ParseFault}

-- the tokens behind the first
abbrev pub tail : List Lexeme → List Lexeme
tail [] = []
tail (_ ∷ rest) = rest

abbrev pub kind_of : Lexeme → TokenKind
kind_of (Lexeme.name _) = kind.Name
kind_of (Lexeme.number value _) = kind.Number value
kind_of (Lexeme.word keyword _) = kind.Keyword keyword
kind_of (Lexeme.sign symbol) = kind.Symbol symbol

-- what the first token is
abbrev pub first_kind : List Lexeme → Option TokenKind
first_kind [] = None
first_kind (token ∷ _) = Some (kind_of token)

abbrev pub is_sign : Symbol → TokenKind → Bool
is_sign wanted (kind.Symbol symbol) = same_sign wanted symbol
is_sign wanted _ = false

abbrev pub is_word : Keyword → TokenKind → Bool
is_word wanted (kind.Keyword keyword) = same_word wanted keyword
is_word wanted _ = false

abbrev pub is_name : TokenKind → Bool
is_name kind.Name = true
is_name _ = false

-- the sign stands first
abbrev pub is_at : Symbol → List Lexeme → Bool
is_at wanted [] = false
is_at wanted (token ∷ _) = is_sign wanted (kind_of token)

-- the word stands first
abbrev pub is_at_word : Keyword → List Lexeme → Bool
is_at_word wanted [] = false
is_at_word wanted (token ∷ _) = is_word wanted (kind_of token)

-- a name stands first
abbrev pub is_at_name : List Lexeme → Bool
is_at_name [] = false
is_at_name (token ∷ _) = is_name (kind_of token)

abbrev pub none_left : List Lexeme → Bool
none_left [] = true
none_left (_ ∷ _) = false

-- the operator between operands that stands first
abbrev pub first_operator : List Lexeme → Option Op
first_operator (Lexeme.sign symbol ∷ _) = operator_of symbol
first_operator _ = None

-- the operator before an operand that stands first
abbrev pub first_unary : List Lexeme → Option Op1
first_unary (Lexeme.sign symbol ∷ _) = unary_of symbol
first_unary _ = None

-- no operator of this level or a tighter one stands first
abbrev pub Below : ℕ → List Lexeme → Type 0
Below n list = MatchOption (first_operator list) (Unit {0}) (λ op. level op < n)

-- behind the token that stands first, with so many brackets open
abbrev pub moved : Spot → ℕ → Spot
moved spot depth = record { rest = tail spot.rest; at = spot.at + 1; depth = depth }

-- What a reading did that was to read the parts up to the end of the tokens: it read them all, or
-- told the fault.
abbrev pub Ends : {X : Type 0} → Spot → List Part → Result X ParseFault → Type 0
Ends old parts result =
    MatchResult result (λ _. judge old parts ≡ Verdict.Fine)
    (λ refused. seen refused (judge old parts) ≡ told refused)
