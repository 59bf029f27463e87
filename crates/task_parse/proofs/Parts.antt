-- What a part of the stack comes to, by what stands first.
use Rattle.std.proofs.Common.{rules, ◌≡◌, ℕ, List, [], ◌∷◌, true, false, Some}
use Rattle.task_lex.specs.declared.keyword.Keyword.TheVariants as keyword
use Rattle.task_lex.specs.declared.symbol.Symbol.TheVariants as sign
use Rattle.task_lex.specs.declared.token.TokenKind.TheVariants as kind
use Rattle.task_parse.specs.Lexeme.{Lexeme}
use Rattle.task_parse.specs.Machine.{Part, Spot, block_then, event_then, expression_then, judge, task_then, transaction_then, variable_then, verdict}
use Rattle.task_parse.specs.Spots.{first_kind, is_at, is_at_name, is_at_word}

-- further expressions
pub more_on : (s : Spot) (k : List Part) → is_at sign.Comma s.rest ≡ true
    → judge s (Part.More ∷ k) ≡ judge s (Part.Sign sign.Comma ∷ expression_then (Part.More ∷ k))
more_on s k h = at_list s.at s.depth s.rest h where
  at_list : (at depth : ℕ) (list : List Lexeme) → is_at sign.Comma list ≡ true
      → verdict at depth list (Part.More ∷ k)
      ≡ verdict at depth list (Part.Sign sign.Comma ∷ expression_then (Part.More ∷ k))
  at_list at depth [] h = search rules
  at_list at depth (_ ∷ rest) h = search rules

pub more_over : (s : Spot) (k : List Part) → is_at sign.Comma s.rest ≡ false
    → judge s (Part.More ∷ k) ≡ judge s k
more_over s k h = at_list s.at s.depth s.rest h where
  at_list : (at depth : ℕ) (list : List Lexeme) → is_at sign.Comma list ≡ false
      → verdict at depth list (Part.More ∷ k) ≡ verdict at depth list k
  at_list at depth [] h = search rules
  at_list at depth (_ ∷ rest) h = search rules

-- expressions with a semicolon behind them
pub values_on : (s : Spot) (k : List Part) → is_at sign.Semicolon s.rest ≡ false
    → judge s (Part.Values ∷ Part.Sign sign.Semicolon ∷ k)
    ≡ judge s (expression_then (Part.More ∷ Part.Sign sign.Semicolon ∷ k))
values_on s k h = at_list s.at s.depth s.rest h where
  at_list : (at depth : ℕ) (list : List Lexeme) → is_at sign.Semicolon list ≡ false
      → verdict at depth list (Part.Values ∷ Part.Sign sign.Semicolon ∷ k)
      ≡ verdict at depth list (expression_then (Part.More ∷ Part.Sign sign.Semicolon ∷ k))
  at_list at depth [] h = search rules
  at_list at depth (_ ∷ rest) h = search rules

pub values_over : (s : Spot) (k : List Part) → is_at sign.Semicolon s.rest ≡ true
    → judge s (Part.Values ∷ k) ≡ judge s k
values_over s k h = at_list s.at s.depth s.rest h where
  at_list : (at depth : ℕ) (list : List Lexeme) → is_at sign.Semicolon list ≡ true
      → verdict at depth list (Part.Values ∷ k) ≡ verdict at depth list k
  at_list at depth [] h = search rules
  at_list at depth (_ ∷ rest) h = search rules

-- `else`
pub otherwise_on : (s : Spot) (k : List Part) → is_at_word keyword.Else s.rest ≡ true
    → judge s (Part.Otherwise ∷ k) ≡ judge s (Part.Word keyword.Else ∷ block_then k)
otherwise_on s k h = at_list s.at s.depth s.rest h where
  at_list : (at depth : ℕ) (list : List Lexeme) → is_at_word keyword.Else list ≡ true
      → verdict at depth list (Part.Otherwise ∷ k) ≡ verdict at depth list (Part.Word keyword.Else ∷ block_then k)
  at_list at depth [] h = search rules
  at_list at depth (_ ∷ rest) h = search rules

-- statements, each by what it begins with, and the end of their block
pub body_over : (s : Spot) (k : List Part) → is_at sign.CloseBrace s.rest ≡ true
    → judge s (Part.Body ∷ k) ≡ judge s (Part.Sign sign.CloseBrace ∷ k)
body_over s k h = at_list s.at s.depth s.rest h where
  at_list : (at depth : ℕ) (list : List Lexeme) → is_at sign.CloseBrace list ≡ true
      → verdict at depth list (Part.Body ∷ k) ≡ verdict at depth list (Part.Sign sign.CloseBrace ∷ k)
  at_list at depth [] h = search rules
  at_list at depth (_ ∷ rest) h = search rules

pub assignment_on : (s : Spot) (k : List Part) → first_kind s.rest ≡ Some kind.Name
    → judge s (Part.Body ∷ k)
    ≡ judge s (Part.AName ∷ Part.Index ∷ Part.Sign sign.Assign ∷ expression_then (Part.Sign sign.Semicolon ∷ Part.Body ∷ k))
assignment_on s k h = at_list s.at s.depth s.rest h where
  at_list : (at depth : ℕ) (list : List Lexeme) → first_kind list ≡ Some kind.Name
      → verdict at depth list (Part.Body ∷ k)
      ≡ verdict at depth list (Part.AName ∷ Part.Index ∷ Part.Sign sign.Assign ∷ expression_then (Part.Sign sign.Semicolon ∷ Part.Body ∷ k))
  at_list at depth [] h = search rules
  at_list at depth (_ ∷ rest) h = search rules

pub local_on : (s : Spot) (k : List Part) → first_kind s.rest ≡ Some (kind.Keyword keyword.Let)
    → judge s (Part.Body ∷ k)
    ≡ judge s (Part.Word keyword.Let ∷ Part.AName ∷ Part.Sign sign.Assign ∷ expression_then (Part.Sign sign.Semicolon ∷ Part.Body ∷ k))
local_on s k h = at_list s.at s.depth s.rest h where
  at_list : (at depth : ℕ) (list : List Lexeme) → first_kind list ≡ Some (kind.Keyword keyword.Let)
      → verdict at depth list (Part.Body ∷ k)
      ≡ verdict at depth list (Part.Word keyword.Let ∷ Part.AName ∷ Part.Sign sign.Assign ∷ expression_then (Part.Sign sign.Semicolon ∷ Part.Body ∷ k))
  at_list at depth [] h = search rules
  at_list at depth (_ ∷ rest) h = search rules

pub choice_on : (s : Spot) (k : List Part) → first_kind s.rest ≡ Some (kind.Keyword keyword.If)
    → judge s (Part.Body ∷ k)
    ≡ judge s (Part.Word keyword.If ∷ expression_then (block_then (Part.Otherwise ∷ Part.Body ∷ k)))
choice_on s k h = at_list s.at s.depth s.rest h where
  at_list : (at depth : ℕ) (list : List Lexeme) → first_kind list ≡ Some (kind.Keyword keyword.If)
      → verdict at depth list (Part.Body ∷ k)
      ≡ verdict at depth list (Part.Word keyword.If ∷ expression_then (block_then (Part.Otherwise ∷ Part.Body ∷ k)))
  at_list at depth [] h = search rules
  at_list at depth (_ ∷ rest) h = search rules

pub repetition_on : (s : Spot) (k : List Part) → first_kind s.rest ≡ Some (kind.Keyword keyword.Repeat)
    → judge s (Part.Body ∷ k)
    ≡ judge s (Part.Word keyword.Repeat ∷ Part.AName ∷ Part.Sign sign.Below ∷ Part.ANumber ∷ block_then (Part.Body ∷ k))
repetition_on s k h = at_list s.at s.depth s.rest h where
  at_list : (at depth : ℕ) (list : List Lexeme) → first_kind list ≡ Some (kind.Keyword keyword.Repeat)
      → verdict at depth list (Part.Body ∷ k)
      ≡ verdict at depth list (Part.Word keyword.Repeat ∷ Part.AName ∷ Part.Sign sign.Below ∷ Part.ANumber ∷ block_then (Part.Body ∷ k))
  at_list at depth [] h = search rules
  at_list at depth (_ ∷ rest) h = search rules

pub next_on : (s : Spot) (k : List Part) → first_kind s.rest ≡ Some (kind.Keyword keyword.Next)
    → judge s (Part.Body ∷ k)
    ≡ judge s (Part.Word keyword.Next ∷ Part.AName ∷ Part.Sign sign.Semicolon ∷ Part.Body ∷ k)
next_on s k h = at_list s.at s.depth s.rest h where
  at_list : (at depth : ℕ) (list : List Lexeme) → first_kind list ≡ Some (kind.Keyword keyword.Next)
      → verdict at depth list (Part.Body ∷ k)
      ≡ verdict at depth list (Part.Word keyword.Next ∷ Part.AName ∷ Part.Sign sign.Semicolon ∷ Part.Body ∷ k)
  at_list at depth [] h = search rules
  at_list at depth (_ ∷ rest) h = search rules

pub halt_on : (s : Spot) (k : List Part) → first_kind s.rest ≡ Some (kind.Keyword keyword.Halt)
    → judge s (Part.Body ∷ k) ≡ judge s (Part.Word keyword.Halt ∷ Part.Sign sign.Semicolon ∷ Part.Body ∷ k)
halt_on s k h = at_list s.at s.depth s.rest h where
  at_list : (at depth : ℕ) (list : List Lexeme) → first_kind list ≡ Some (kind.Keyword keyword.Halt)
      → verdict at depth list (Part.Body ∷ k)
      ≡ verdict at depth list (Part.Word keyword.Halt ∷ Part.Sign sign.Semicolon ∷ Part.Body ∷ k)
  at_list at depth [] h = search rules
  at_list at depth (_ ∷ rest) h = search rules

pub give_on : (s : Spot) (k : List Part) → first_kind s.rest ≡ Some (kind.Keyword keyword.Give)
    → judge s (Part.Body ∷ k)
    ≡ judge s (Part.Word keyword.Give ∷ Part.Values ∷ Part.Sign sign.Semicolon ∷ Part.Body ∷ k)
give_on s k h = at_list s.at s.depth s.rest h where
  at_list : (at depth : ℕ) (list : List Lexeme) → first_kind list ≡ Some (kind.Keyword keyword.Give)
      → verdict at depth list (Part.Body ∷ k)
      ≡ verdict at depth list (Part.Word keyword.Give ∷ Part.Values ∷ Part.Sign sign.Semicolon ∷ Part.Body ∷ k)
  at_list at depth [] h = search rules
  at_list at depth (_ ∷ rest) h = search rules

-- variables
pub variables_on : (s : Spot) (k : List Part) → is_at_word keyword.Nv s.rest ≡ true
    → judge s (Part.Variables ∷ k) ≡ judge s (Part.Word keyword.Nv ∷ variable_then (Part.Variables ∷ k))
variables_on s k h = at_list s.at s.depth s.rest h where
  at_list : (at depth : ℕ) (list : List Lexeme) → is_at_word keyword.Nv list ≡ true
      → verdict at depth list (Part.Variables ∷ k)
      ≡ verdict at depth list (Part.Word keyword.Nv ∷ variable_then (Part.Variables ∷ k))
  at_list at depth [] h = search rules
  at_list at depth (_ ∷ rest) h = search rules

pub length_on : (s : Spot) (k : List Part) → is_at sign.OpenBracket s.rest ≡ true
    → judge s (Part.Length ∷ k)
    ≡ judge s (Part.Sign sign.OpenBracket ∷ Part.ANumber ∷ Part.Sign sign.CloseBracket ∷ k)
length_on s k h = at_list s.at s.depth s.rest h where
  at_list : (at depth : ℕ) (list : List Lexeme) → is_at sign.OpenBracket list ≡ true
      → verdict at depth list (Part.Length ∷ k)
      ≡ verdict at depth list (Part.Sign sign.OpenBracket ∷ Part.ANumber ∷ Part.Sign sign.CloseBracket ∷ k)
  at_list at depth [] h = search rules
  at_list at depth (_ ∷ rest) h = search rules

pub given_on : (s : Spot) (k : List Part) → is_at sign.Assign s.rest ≡ true
    → judge s (Part.Given ∷ k) ≡ judge s (Part.Sign sign.Assign ∷ Part.Init ∷ k)
given_on s k h = at_list s.at s.depth s.rest h where
  at_list : (at depth : ℕ) (list : List Lexeme) → is_at sign.Assign list ≡ true
      → verdict at depth list (Part.Given ∷ k) ≡ verdict at depth list (Part.Sign sign.Assign ∷ Part.Init ∷ k)
  at_list at depth [] h = search rules
  at_list at depth (_ ∷ rest) h = search rules

pub many_on : (s : Spot) (k : List Part) → is_at sign.OpenBrace s.rest ≡ true
    → judge s (Part.Init ∷ k)
    ≡ judge s (Part.Sign sign.OpenBrace ∷ Part.ANumber ∷ Part.Numbers ∷ Part.Sign sign.CloseBrace ∷ k)
many_on s k h = at_list s.at s.depth s.rest h where
  at_list : (at depth : ℕ) (list : List Lexeme) → is_at sign.OpenBrace list ≡ true
      → verdict at depth list (Part.Init ∷ k)
      ≡ verdict at depth list (Part.Sign sign.OpenBrace ∷ Part.ANumber ∷ Part.Numbers ∷ Part.Sign sign.CloseBrace ∷ k)
  at_list at depth [] h = search rules
  at_list at depth (_ ∷ rest) h = search rules

pub one_on : (s : Spot) (k : List Part) → is_at sign.OpenBrace s.rest ≡ false
    → judge s (Part.Init ∷ k) ≡ judge s (Part.ANumber ∷ k)
one_on s k h = at_list s.at s.depth s.rest h where
  at_list : (at depth : ℕ) (list : List Lexeme) → is_at sign.OpenBrace list ≡ false
      → verdict at depth list (Part.Init ∷ k) ≡ verdict at depth list (Part.ANumber ∷ k)
  at_list at depth [] h = search rules
  at_list at depth (_ ∷ rest) h = search rules

pub numbers_on : (s : Spot) (k : List Part) → is_at sign.Comma s.rest ≡ true
    → judge s (Part.Numbers ∷ k) ≡ judge s (Part.Sign sign.Comma ∷ Part.ANumber ∷ Part.Numbers ∷ k)
numbers_on s k h = at_list s.at s.depth s.rest h where
  at_list : (at depth : ℕ) (list : List Lexeme) → is_at sign.Comma list ≡ true
      → verdict at depth list (Part.Numbers ∷ k)
      ≡ verdict at depth list (Part.Sign sign.Comma ∷ Part.ANumber ∷ Part.Numbers ∷ k)
  at_list at depth [] h = search rules
  at_list at depth (_ ∷ rest) h = search rules

pub numbers_over : (s : Spot) (k : List Part) → is_at sign.Comma s.rest ≡ false
    → judge s (Part.Numbers ∷ k) ≡ judge s k
numbers_over s k h = at_list s.at s.depth s.rest h where
  at_list : (at depth : ℕ) (list : List Lexeme) → is_at sign.Comma list ≡ false
      → verdict at depth list (Part.Numbers ∷ k) ≡ verdict at depth list k
  at_list at depth [] h = search rules
  at_list at depth (_ ∷ rest) h = search rules

-- the buffer
pub buffer_on : (s : Spot) (k : List Part) → is_at_word keyword.Buffer s.rest ≡ true
    → judge s (Part.Buffer ∷ k) ≡ judge s (Part.Word keyword.Buffer ∷ Part.ANumber ∷ Part.Sign sign.Semicolon ∷ k)
buffer_on s k h = at_list s.at s.depth s.rest h where
  at_list : (at depth : ℕ) (list : List Lexeme) → is_at_word keyword.Buffer list ≡ true
      → verdict at depth list (Part.Buffer ∷ k)
      ≡ verdict at depth list (Part.Word keyword.Buffer ∷ Part.ANumber ∷ Part.Sign sign.Semicolon ∷ k)
  at_list at depth [] h = search rules
  at_list at depth (_ ∷ rest) h = search rules

-- events, and the parameters of one
pub events_on : (s : Spot) (k : List Part) → is_at_word keyword.Event s.rest ≡ true
    → judge s (Part.Events ∷ k) ≡ judge s (Part.Word keyword.Event ∷ event_then (Part.Events ∷ k))
events_on s k h = at_list s.at s.depth s.rest h where
  at_list : (at depth : ℕ) (list : List Lexeme) → is_at_word keyword.Event list ≡ true
      → verdict at depth list (Part.Events ∷ k)
      ≡ verdict at depth list (Part.Word keyword.Event ∷ event_then (Part.Events ∷ k))
  at_list at depth [] h = search rules
  at_list at depth (_ ∷ rest) h = search rules

pub params_on : (s : Spot) (k : List Part) → is_at_name s.rest ≡ true
    → judge s (Part.Params ∷ k) ≡ judge s (Part.AName ∷ Part.Names ∷ k)
params_on s k h = at_list s.at s.depth s.rest h where
  at_list : (at depth : ℕ) (list : List Lexeme) → is_at_name list ≡ true
      → verdict at depth list (Part.Params ∷ k) ≡ verdict at depth list (Part.AName ∷ Part.Names ∷ k)
  at_list at depth [] h = search rules
  at_list at depth (_ ∷ rest) h = search rules

pub names_on : (s : Spot) (k : List Part) → is_at sign.Comma s.rest ≡ true
    → judge s (Part.Names ∷ k) ≡ judge s (Part.Sign sign.Comma ∷ Part.AName ∷ Part.Names ∷ k)
names_on s k h = at_list s.at s.depth s.rest h where
  at_list : (at depth : ℕ) (list : List Lexeme) → is_at sign.Comma list ≡ true
      → verdict at depth list (Part.Names ∷ k)
      ≡ verdict at depth list (Part.Sign sign.Comma ∷ Part.AName ∷ Part.Names ∷ k)
  at_list at depth [] h = search rules
  at_list at depth (_ ∷ rest) h = search rules

-- units, and the tasks of a transaction
pub transaction_on : (s : Spot) (k : List Part) → is_at_word keyword.Transaction s.rest ≡ true
    → judge s (Part.AUnit ∷ k) ≡ judge s (Part.Word keyword.Transaction ∷ transaction_then k)
transaction_on s k h = at_list s.at s.depth s.rest h where
  at_list : (at depth : ℕ) (list : List Lexeme) → is_at_word keyword.Transaction list ≡ true
      → verdict at depth list (Part.AUnit ∷ k)
      ≡ verdict at depth list (Part.Word keyword.Transaction ∷ transaction_then k)
  at_list at depth [] h = search rules
  at_list at depth (_ ∷ rest) h = search rules

pub task_on : (s : Spot) (k : List Part) → is_at_word keyword.Transaction s.rest ≡ false
    → judge s (Part.AUnit ∷ k) ≡ judge s (Part.Word keyword.Task ∷ task_then k)
task_on s k h = at_list s.at s.depth s.rest h where
  at_list : (at depth : ℕ) (list : List Lexeme) → is_at_word keyword.Transaction list ≡ false
      → verdict at depth list (Part.AUnit ∷ k) ≡ verdict at depth list (Part.Word keyword.Task ∷ task_then k)
  at_list at depth [] h = search rules
  at_list at depth (_ ∷ rest) h = search rules

pub members_on : (s : Spot) (k : List Part) → is_at_word keyword.Task s.rest ≡ true
    → judge s (Part.Members ∷ k) ≡ judge s (Part.Word keyword.Task ∷ task_then (Part.Members ∷ k))
members_on s k h = at_list s.at s.depth s.rest h where
  at_list : (at depth : ℕ) (list : List Lexeme) → is_at_word keyword.Task list ≡ true
      → verdict at depth list (Part.Members ∷ k)
      ≡ verdict at depth list (Part.Word keyword.Task ∷ task_then (Part.Members ∷ k))
  at_list at depth [] h = search rules
  at_list at depth (_ ∷ rest) h = search rules
