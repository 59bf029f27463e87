-- Which tokens are barred: what is told by reading the tokens from the left alone.
use Rattle.std.specs.Prelude.{ℕ, ◌+◌, pred, ◌≡◌, List, [], ◌∷◌, Bool, true, false, ◌&&◌, ◌||◌, nat_eq, cond, Option, Some, None, is_some}
use Rattle.coati_word.specs.declared.operator.Op.{Op}
use Rattle.task_lex.specs.declared.symbol.Symbol.{Symbol}
use Rattle.task_lex.specs.declared.symbol.Symbol.TheVariants as sign
use Rattle.task_parse.specs.Lexeme.{Lexeme}
use Rattle.task_parse.specs.Operators.{operator_of}

-- how many brackets may be open
abbrev pub most_open : ℕ
most_open = 64

-- how many binary operators an expression may have outside of its brackets
abbrev pub most_operators : ℕ
most_operators = 16

-- What has been read: how many brackets are open; how many operators each expression under way has
-- outside of its brackets, the innermost first, where one that is not listed has none; and whether
-- an operand has just ended.
pub record Scan : Type 0 where
  pub depth : ℕ
  pub counts : List ℕ
  pub ended : Bool

abbrev pub start : Scan
start = record { depth = 0; counts = []; ended = false }

abbrev pub opens : Lexeme → Bool
opens (Lexeme.sign sign.OpenBrace) = true
opens (Lexeme.sign sign.OpenParen) = true
opens (Lexeme.sign sign.OpenBracket) = true
opens _ = false

abbrev pub closes : Lexeme → Bool
closes (Lexeme.sign sign.CloseBrace) = true
closes (Lexeme.sign sign.CloseParen) = true
closes (Lexeme.sign sign.CloseBracket) = true
closes _ = false

-- how many brackets are open behind a token
abbrev pub shift : ℕ → Lexeme → ℕ
shift depth token = cond (opens token) (depth + 1) (cond (closes token) (pred depth) depth)

abbrev pub ends_operand : Lexeme → Bool
ends_operand (Lexeme.name _) = true
ends_operand (Lexeme.number _ _) = true
ends_operand (Lexeme.word _ _) = false
ends_operand (Lexeme.sign sign.CloseParen) = true
ends_operand (Lexeme.sign sign.CloseBracket) = true
ends_operand (Lexeme.sign _) = false

-- an operator is binary right behind an operand
abbrev pub is_binary : Bool → Lexeme → Bool
is_binary ended (Lexeme.sign s) = is_some (operator_of s) && ended
is_binary ended _ = false

-- the count of the innermost expression
abbrev pub top : List ℕ → ℕ
top [] = 0
top (count ∷ _) = count

-- the counts of the expressions around it
abbrev pub under : List ℕ → List ℕ
under [] = []
under (_ ∷ counts) = counts

-- Behind a sign that is no operator between operands: a bracket in an expression begins an
-- expression or ends one, and what stands in no expression ends all.
abbrev pub bracketed : List ℕ → Symbol → List ℕ
bracketed counts sign.OpenParen = 0 ∷ counts
bracketed counts sign.OpenBracket = 0 ∷ counts
bracketed counts sign.CloseParen = under counts
bracketed counts sign.CloseBracket = under counts
bracketed counts sign.Invert = counts
bracketed counts sign.Not = counts
bracketed counts _ = []

abbrev pub counted_sign : Bool → List ℕ → Symbol → Option Op → List ℕ
counted_sign ended counts s (Some _) = cond ended ((top counts + 1) ∷ under counts) counts
counted_sign ended counts s None = bracketed counts s

-- the counts behind a token
abbrev pub counted : Bool → List ℕ → Lexeme → List ℕ
counted ended counts (Lexeme.name _) = counts
counted ended counts (Lexeme.number _ _) = counts
counted ended counts (Lexeme.word _ _) = []
counted ended counts (Lexeme.sign s) = counted_sign ended counts s (operator_of s)

-- what has been read with one more token
abbrev pub scanned : Scan → Lexeme → Scan
scanned scan token = record {
  depth = shift scan.depth token;
  counts = counted scan.ended scan.counts token;
  ended = ends_operand token;
}

-- what has been read with more tokens
abbrev pub scan_from : Scan → List Lexeme → Scan
scan_from scan [] = scan
scan_from scan (token ∷ list) = scan_from (scanned scan token) list

-- the 65th open bracket, or the 17th binary operator of one expression
abbrev pub is_barred : Scan → Lexeme → Bool
is_barred scan token = (opens token && nat_eq scan.depth most_open)
    || (is_binary scan.ended token && nat_eq (top scan.counts) most_operators)

-- none of the tokens is barred
abbrev pub AreFree : Scan → List Lexeme → Type 0
AreFree scan [] = Unit {0}
AreFree scan (token ∷ list) = (is_barred scan token ≡ false) × AreFree (scanned scan token) list
