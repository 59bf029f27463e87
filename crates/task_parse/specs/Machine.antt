-- Reading token by token, with a stack of the parts that are still to come. It builds no tree and
-- knows no levels; it tells where the first fault of a list of tokens is. Only contracts inside
-- this crate cite it: those that others see speak of the grammar alone.
use Rattle.std.specs.Prelude.{ℕ, ◌+◌, ◌≡◌, List, [], ◌∷◌, ◌++◌, Bool, true, false, ◌&&◌, ◌||◌, cond, nat_eq, bytes_eq, is_some, Result, Option, Some, None, MatchResult}
use Rattle.task_lex.specs.Spelling.{keyword_text, symbol_text}
use Rattle.task_lex.specs.declared.keyword.Keyword.{Keyword}
use Rattle.task_lex.specs.declared.keyword.Keyword.TheVariants as keyword
use Rattle.task_lex.specs.declared.symbol.Symbol.{Symbol}
use Rattle.task_lex.specs.declared.symbol.Symbol.TheVariants as sign
use Rattle.task_parse.specs.Bars.{most_open, most_operators, opens, shift}
use Rattle.task_parse.specs.Lexeme.{Lexeme}
use Rattle.task_parse.specs.Operators.{operator_of, unary_of}
use Rattle.task_parse.specs.declared.fault.ParseFault.{ParseFault}
use Rattle.task_parse.specs.declared.fault.ParseFault.TheVariants as fault

-- a part that is still to come
pub data Part : Type 0 where
  Sign : Symbol → Part
  Word : Keyword → Part
  AName : Part
  ANumber : Part
  -- further variables, or none
  Variables : Part
  -- what stands behind a variable's name: `[number]` or nothing, then `= init` or nothing
  Length : Part
  Given : Part
  Init : Part
  -- `, number` any number of times
  Numbers : Part
  Buffer : Part
  Events : Part
  -- a name and then `, name` any number of times, or nothing
  Params : Part
  Names : Part
  AUnit : Part
  Units : Part
  -- further tasks of a transaction, or none
  Members : Part
  -- statements and the brace that closes their block
  Body : Part
  Otherwise : Part
  -- an expression and then `, expression` any number of times, or nothing
  Values : Part
  More : Part
  Operand : Part
  Primary : Part
  -- `[expression]` or nothing
  Index : Part
  -- operators and operands, behind so many operators of the same expression
  Ops : ℕ → Part

-- what a part makes of a token: it takes it and more is to come, it is over without it, or it does
-- not go on with it
pub data Move : Type 0 where
  Take : List Part → Move
  Skip : Move
  Stop : Move

abbrev pub same_sign : Symbol → Symbol → Bool
same_sign a b = bytes_eq (symbol_text a) (symbol_text b)

abbrev pub same_word : Keyword → Keyword → Bool
same_word a b = bytes_eq (keyword_text a) (keyword_text b)

abbrev pub taken_if : Bool → Move
taken_if b = cond b (Move.Take []) Move.Stop

-- the parts of a variable behind `nv`, with what follows it
abbrev pub variable_then : List Part → List Part
variable_then k = Part.AName ∷ Part.Length ∷ Part.Given ∷ Part.Sign sign.Semicolon ∷ k

-- the parts of an expression, with what follows it
abbrev pub expression_then : List Part → List Part
expression_then k = Part.Operand ∷ Part.Ops 0 ∷ k

abbrev pub block_then : List Part → List Part
block_then k = Part.Sign sign.OpenBrace ∷ Part.Body ∷ k

-- the parts of a task behind `task`
abbrev pub task_then : List Part → List Part
task_then k = Part.AName ∷ block_then k

-- the parts of a transaction behind `transaction`
abbrev pub transaction_then : List Part → List Part
transaction_then k =
    Part.AName ∷ Part.Sign sign.OpenBrace ∷ Part.Word keyword.Task
    ∷ task_then (Part.Members ∷ Part.Sign sign.CloseBrace ∷ k)

-- the parts of an event behind `event`
abbrev pub event_then : List Part → List Part
event_then k =
    Part.AName ∷ Part.Sign sign.OpenParen ∷ Part.AName ∷ Part.Sign sign.CloseParen
    ∷ Part.Sign sign.OpenBrace ∷ Part.Word keyword.Top
    ∷ block_then (Part.Word keyword.Bottom ∷ Part.Sign sign.OpenParen ∷ Part.Params
    ∷ Part.Sign sign.CloseParen
    ∷ block_then (Part.Sign sign.CloseBrace ∷ k))

-- the parts of a whole program
abbrev pub whole_parts : List Part
whole_parts = Part.Word keyword.Nv ∷ variable_then (Part.Variables ∷ Part.Buffer ∷ Part.Events
    ∷ Part.AUnit ∷ Part.Units ∷ [])

abbrev pub primary_step : Lexeme → Move
primary_step (Lexeme.number _ _) = Move.Take []
primary_step (Lexeme.name _) = Move.Take (Part.Index ∷ [])
primary_step (Lexeme.sign sign.OpenParen) = Move.Take
    (expression_then (Part.Sign sign.CloseParen ∷ []))
primary_step _ = Move.Stop

abbrev pub operand_step : Lexeme → Move
operand_step (Lexeme.sign s) = cond (is_some (unary_of s)) (Move.Take (Part.Primary ∷ []))
    (primary_step (Lexeme.sign s))
operand_step token = primary_step token

-- the first operand of expressions, or nothing
abbrev pub values_step : Move → Move
values_step (Move.Take new) = Move.Take (new ++ Part.Ops 0 ∷ Part.More ∷ [])
values_step _ = Move.Skip

abbrev pub body_step : Lexeme → Move
body_step (Lexeme.sign sign.CloseBrace) = Move.Take []
body_step (Lexeme.name _) = Move.Take (Part.Index ∷ Part.Sign sign.Assign
    ∷ expression_then (Part.Sign sign.Semicolon ∷ Part.Body ∷ []))
body_step (Lexeme.word keyword.Let _) = Move.Take (Part.AName ∷ Part.Sign sign.Assign
    ∷ expression_then (Part.Sign sign.Semicolon ∷ Part.Body ∷ []))
body_step (Lexeme.word keyword.If _) = Move.Take
    (expression_then (block_then (Part.Otherwise ∷ Part.Body ∷ [])))
body_step (Lexeme.word keyword.Repeat _) = Move.Take (Part.AName ∷ Part.Sign sign.Below
    ∷ Part.ANumber ∷ block_then (Part.Body ∷ []))
body_step (Lexeme.word keyword.Next _) = Move.Take (Part.AName ∷ Part.Sign sign.Semicolon
    ∷ Part.Body ∷ [])
body_step (Lexeme.word keyword.Halt _) = Move.Take (Part.Sign sign.Semicolon ∷ Part.Body ∷ [])
body_step (Lexeme.word keyword.Give _) = Move.Take (Part.Values ∷ Part.Sign sign.Semicolon
    ∷ Part.Body ∷ [])
body_step _ = Move.Stop

-- what a part makes of a token
abbrev pub step : Part → Lexeme → Move
step (Part.Sign wanted) (Lexeme.sign s) = taken_if (same_sign wanted s)
step (Part.Sign _) _ = Move.Stop
step (Part.Word wanted) (Lexeme.word w _) = taken_if (same_word wanted w)
step (Part.Word _) _ = Move.Stop
step Part.AName (Lexeme.name _) = Move.Take []
step Part.AName _ = Move.Stop
step Part.ANumber (Lexeme.number _ _) = Move.Take []
step Part.ANumber _ = Move.Stop
step Part.Variables (Lexeme.word keyword.Nv _) = Move.Take (variable_then (Part.Variables ∷ []))
step Part.Variables _ = Move.Skip
step Part.Length (Lexeme.sign sign.OpenBracket) =
    Move.Take (Part.ANumber ∷ Part.Sign sign.CloseBracket ∷ [])
step Part.Length _ = Move.Skip
step Part.Given (Lexeme.sign sign.Assign) = Move.Take (Part.Init ∷ [])
step Part.Given _ = Move.Skip
step Part.Init (Lexeme.number _ _) = Move.Take []
step Part.Init (Lexeme.sign sign.OpenBrace) =
    Move.Take (Part.ANumber ∷ Part.Numbers ∷ Part.Sign sign.CloseBrace ∷ [])
step Part.Init _ = Move.Stop
step Part.Numbers (Lexeme.sign sign.Comma) = Move.Take (Part.ANumber ∷ Part.Numbers ∷ [])
step Part.Numbers _ = Move.Skip
step Part.Buffer (Lexeme.word keyword.Buffer _) =
    Move.Take (Part.ANumber ∷ Part.Sign sign.Semicolon ∷ [])
step Part.Buffer _ = Move.Skip
step Part.Events (Lexeme.word keyword.Event _) = Move.Take (event_then (Part.Events ∷ []))
step Part.Events _ = Move.Skip
step Part.Params (Lexeme.name _) = Move.Take (Part.Names ∷ [])
step Part.Params _ = Move.Skip
step Part.Names (Lexeme.sign sign.Comma) = Move.Take (Part.AName ∷ Part.Names ∷ [])
step Part.Names _ = Move.Skip
step Part.AUnit (Lexeme.word keyword.Task _) = Move.Take (task_then [])
step Part.AUnit (Lexeme.word keyword.Transaction _) = Move.Take (transaction_then [])
step Part.AUnit _ = Move.Stop
step Part.Units (Lexeme.word keyword.Task _) = Move.Take (task_then (Part.Units ∷ []))
step Part.Units (Lexeme.word keyword.Transaction _) =
    Move.Take (transaction_then (Part.Units ∷ []))
step Part.Units _ = Move.Skip
step Part.Members (Lexeme.word keyword.Task _) = Move.Take (task_then (Part.Members ∷ []))
step Part.Members _ = Move.Skip
step Part.Body token = body_step token
step Part.Otherwise (Lexeme.word keyword.Else _) = Move.Take (block_then [])
step Part.Otherwise _ = Move.Skip
step Part.Values token = values_step (operand_step token)
step Part.More (Lexeme.sign sign.Comma) = Move.Take (expression_then (Part.More ∷ []))
step Part.More _ = Move.Skip
step Part.Operand token = operand_step token
step Part.Primary token = primary_step token
step Part.Index (Lexeme.sign sign.OpenBracket) =
    Move.Take (expression_then (Part.Sign sign.CloseBracket ∷ []))
step Part.Index _ = Move.Skip
step (Part.Ops k) (Lexeme.sign s) = cond (is_some (operator_of s))
    (Move.Take (Part.Operand ∷ Part.Ops (k + 1) ∷ [])) Move.Skip
step (Part.Ops k) _ = Move.Skip

-- the part may be left out where the tokens end
abbrev pub is_optional : Part → Bool
is_optional Part.Variables = true
is_optional Part.Length = true
is_optional Part.Given = true
is_optional Part.Numbers = true
is_optional Part.Buffer = true
is_optional Part.Events = true
is_optional Part.Params = true
is_optional Part.Names = true
is_optional Part.Units = true
is_optional Part.Members = true
is_optional Part.Otherwise = true
is_optional Part.Values = true
is_optional Part.More = true
is_optional Part.Index = true
is_optional (Part.Ops _) = true
is_optional _ = false

-- one more operator is one too many
abbrev pub is_full : Part → Bool
is_full (Part.Ops k) = nat_eq k most_operators
is_full _ = false

abbrev pub fed : Option (Bool × List Part) → List Part → Bool → Move → Option (Bool × List Part)
fed below k full (Move.Take new) = Some (full, new ++ k)
fed below k full Move.Skip = below
fed below k full Move.Stop = None

-- what is still to come behind a token, and whether the token is an operator too many; none where
-- nothing goes on with it
abbrev pub feed : List Part → Lexeme → Option (Bool × List Part)
feed [] token = None
feed (x ∷ k) token = fed (feed k token) k (is_full x) (step x token)

abbrev pub are_optional : List Part → Bool
are_optional [] = true
are_optional (x ∷ k) = is_optional x && are_optional k

-- no fault, a token with which no program goes on, or a barred one
pub data Verdict : Type 0 where
  Fine : Verdict
  Bad : ℕ → Verdict
  Deep : ℕ → Verdict

abbrev pub judged : ℕ → Bool → (List Part → Verdict) → Option (Bool × List Part) → Verdict
judged at deep next None = Verdict.Bad at
judged at deep next (Some (full, k)) = cond (deep || full) (Verdict.Deep at) (next k)

-- the first fault of a list, where the number of its first token, the number of open brackets and
-- what is to come are given
abbrev pub verdict : ℕ → ℕ → List Lexeme → List Part → Verdict
verdict at depth [] k = cond (are_optional k) Verdict.Fine (Verdict.Bad at)
verdict at depth (token ∷ list) k =
    judged at (opens token && nat_eq depth most_open)
    (λ j. verdict (at + 1) (shift depth token) list j) (feed k token)

-- where reading stands: the tokens left, the number of the first of them, and how many brackets
-- are open
pub record Spot : Type 0 where
  pub rest : List Lexeme
  pub at : ℕ
  pub depth : ℕ

abbrev pub judge : Spot → List Part → Verdict
judge spot k = verdict spot.at spot.depth spot.rest k

-- the verdict that a fault tells
abbrev pub told : ParseFault → Verdict
told fault.OutOfMemory = Verdict.Fine
told (fault.Syntax n) = Verdict.Bad n
told (fault.TooDeep n) = Verdict.Deep n

abbrev pub has_memory : ParseFault → Bool
has_memory fault.OutOfMemory = false
has_memory _ = true

-- the verdict, where memory was not refused
abbrev pub seen : ParseFault → Verdict → Verdict
seen refused verdict = cond (has_memory refused) verdict Verdict.Fine

-- What a reading did that was to read the parts xs: it went up to where the parts ys are still to
-- come, or told the fault.
abbrev pub Gives : {X : Type 0} → Spot → List Part → Spot → (X → List Part) → Result X ParseFault →
    Type 0
Gives old xs new ys result =
    MatchResult result
    (λ x. (k : List Part) → judge old (xs ++ k) ≡ judge new (ys x ++ k))
    (λ refused. (k : List Part) → seen refused (judge old (xs ++ k)) ≡ told refused)
