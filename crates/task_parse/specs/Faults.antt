-- Which program a source's tokens spell, and where a list of tokens stops being the beginning of a
-- program.
use Rattle.std.specs.Prelude.{ℕ, ◌≡◌, true, List, [], ◌∷◌, ◌++◌, length}
use Rattle.task_lex.specs.declared.token.Token.{Token}
use Rattle.task_syntax.specs.declared.program.Program.{Program}
use Rattle.task_parse.specs.Bars.{AreFree, is_barred, scan_from, start}
use Rattle.task_parse.specs.Grammar.{Derives}
use Rattle.task_parse.specs.Lexeme.{Lexeme, lexemes}

-- the tokens of the source are the program, and none of them is barred
pub record Spells (source : List ℕ) (tokens : List Token) (program : Program) : Type 0 where
  pub derives : Derives (lexemes source tokens) program
  pub free : AreFree start (lexemes source tokens)

-- some program's list of tokens begins with these; the text of a name and the size of a number
-- matter to no rule of the grammar
abbrev pub Begins : List Lexeme → Type 0
Begins list = (more : List Lexeme) × (program : Program) × Derives (list ++ more) program

-- what has been read does not go on so: it is no program where nothing follows, and begins none
-- with the first of the rest
abbrev pub Breaks : List Lexeme → List Lexeme → Type 0
Breaks before [] = (program : Program) → Derives before program → ⊥
Breaks before (token ∷ rest) = Begins (before ++ token ∷ []) → ⊥

-- token n is the first with which no program's list begins, or n tokens end too early, and no
-- token before it is barred
pub record FaultAt (list : List Lexeme) (n : ℕ) : Type 0 where
  pub before : List Lexeme
  pub rest : List Lexeme
  pub split : list ≡ before ++ rest
  pub place : length before ≡ n
  pub begins : Begins before
  pub breaks : Breaks before rest
  pub free : AreFree start before

-- token n is the first barred one, and some program's list begins with the tokens up to and
-- including it
pub record DeepAt (list : List Lexeme) (n : ℕ) : Type 0 where
  pub before : List Lexeme
  pub token : Lexeme
  pub rest : List Lexeme
  pub split : list ≡ before ++ token ∷ rest
  pub place : length before ≡ n
  pub begins : Begins (before ++ token ∷ [])
  pub barred : is_barred (scan_from start before) token ≡ true
  pub free : AreFree start before
