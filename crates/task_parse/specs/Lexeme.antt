-- What is read of a token: what it is, with the text of a name, and its place where a tree keeps
-- that.
use Rattle.std.specs.Prelude.{ℕ, List, map, slice_range}
use Rattle.task_lex.specs.declared.keyword.Keyword.{Keyword}
use Rattle.task_lex.specs.declared.symbol.Symbol.{Symbol}
use Rattle.task_lex.specs.declared.token.Token.{Token}
use Rattle.task_lex.specs.declared.token.TokenKind.{TokenKind}
use Rattle.task_lex.specs.declared.token.TokenKind.TheVariants as kind
use Rattle.task_syntax.specs.declared.name.Name.{Name}

-- a name with its place, a number with its place, a word of the language with its place, or one or
-- two signs
pub data Lexeme : Type 0 where
  name : Name → Lexeme
  number : ℕ → ℕ → Lexeme
  word : Keyword → ℕ → Lexeme
  sign : Symbol → Lexeme

abbrev pub lexeme_from : List ℕ → TokenKind → ℕ → ℕ → Lexeme
lexeme_from source kind.Name start end = Lexeme.name (record {
  text = slice_range source start end;
  at = start;
})
lexeme_from source (kind.Number value) start end = Lexeme.number value start
lexeme_from source (kind.Keyword keyword) start end = Lexeme.word keyword start
lexeme_from source (kind.Symbol symbol) start end = Lexeme.sign symbol

-- what is read of a token of the source
abbrev pub lexeme_of : List ℕ → Token → Lexeme
lexeme_of source token = lexeme_from source token.kind token.start token.end

-- what is read of tokens
abbrev pub lexemes : List ℕ → List Token → List Lexeme
lexemes source tokens = map (lexeme_of source) tokens
