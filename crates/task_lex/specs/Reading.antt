-- How a text is read: the one list of its tokens, or its first fault.
use Rattle.std.specs.Prelude.{ℕ, ◌≡◌, ◌≢◌, ◌+◌, true, false, List, [], ◌∷◌, ◌++◌, length}
use Rattle.std.specs.List.{list_all}
use Rattle.task_lex.specs.Byte.{begins, hash, is_blank, is_in_comment, is_name_byte}
use Rattle.task_lex.specs.Token.{Fits, IsBadNumber, IsToken}
use Rattle.task_lex.specs.declared.fault.LexFault.{LexFault}
use Rattle.task_lex.specs.declared.fault.LexFault.TheVariants.{BadByte, BadNumber, OutOfMemory}
use Rattle.task_lex.specs.declared.symbol.Symbol.{Symbol}
use Rattle.task_lex.specs.declared.token.Token.{Token}
use Rattle.task_lex.specs.declared.token.TokenKind.{TokenKind}

-- what may stand between tokens, where this rest stands behind it: a blank, or a comment up to the
-- next LF or the end
pub data IsGap : List ℕ → List ℕ → Type 0 where
  blank : (byte : ℕ) (rest : List ℕ) → is_blank byte ≡ true → IsGap (byte ∷ []) rest
  comment : (words rest : List ℕ) → list_all is_in_comment words ≡ true →
      begins is_in_comment rest ≡ false
      → IsGap (hash ∷ words) rest

-- the token of this kind whose text stands at this place
abbrev pub token_at : TokenKind → ℕ → List ℕ → Token
token_at kind place word = record { kind = kind; start = place; end = place + length word }

-- from a place on the text is these tokens, with gaps between and around them, up to another place
-- and what stands there
pub data Reads : ℕ → List ℕ → List Token → ℕ → List ℕ → Type 0 where
  nothing : (place : ℕ) (text : List ℕ) → Reads place text [] place text
  gap : (place : ℕ) (text word rest : List ℕ) (tokens : List Token) (behind : ℕ) (left : List ℕ)
      → text ≡ word ++ rest → IsGap word rest → Reads (place + length word) rest tokens behind left
      → Reads place text tokens behind left
  token : (kind : TokenKind) (place : ℕ) (text word rest : List ℕ) (tokens : List Token)
      (behind : ℕ) (left : List ℕ)
      → text ≡ word ++ rest → IsToken kind word rest →
      Reads (place + length word) rest tokens behind left
      → Reads place text (token_at kind place word ∷ tokens) behind left

-- these are the tokens of the text
abbrev pub Tokens : List ℕ → List Token → Type 0
Tokens text tokens = Reads 0 text tokens (length text) []

-- the text begins with a byte that starts nothing
pub record IsBadByte (text : List ℕ) : Type 0 where
  pub byte : ℕ
  pub rest : List ℕ
  pub here : text ≡ byte ∷ rest
  pub no_blank : is_blank byte ≡ false
  pub no_comment : byte ≢ hash
  pub no_word : is_name_byte byte ≡ false
  pub no_symbol : (symbol : Symbol) → Fits symbol text → ⊥

-- what stands before the place is tokens and gaps, and what stands there is at fault
pub record FaultAt (text : List ℕ) (at : ℕ) (IsBad : List ℕ → Type 0) : Type 0 where
  pub tokens : List Token
  pub left : List ℕ
  pub before : Reads 0 text tokens at left
  pub bad : IsBad left

-- the first fault of the text
abbrev pub FaultsAt : List ℕ → LexFault → Type 0
FaultsAt text (BadByte at) = FaultAt text at IsBadByte
FaultsAt text (BadNumber at) = FaultAt text at IsBadNumber
FaultsAt text OutOfMemory = ⊥
