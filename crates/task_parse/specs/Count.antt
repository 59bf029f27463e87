-- What the scan of the tokens counts, told by the grammar.
use Rattle.std.specs.Prelude.{ℕ, ◌+◌, ◌≡◌, ◌≤◌, Bool, true, false, List, ◌++◌}
use Rattle.task_lex.specs.declared.keyword.Keyword.TheVariants as keyword
use Rattle.task_lex.specs.declared.symbol.Symbol.TheVariants as sign
use Rattle.task_parse.specs.Bars.{AreFree, Scan, most_operators, scan_from, top, under}
use Rattle.task_parse.specs.Grammar as G
use Rattle.task_parse.specs.Grammar.{Form, Reads}
use Rattle.task_parse.specs.Lexeme.{Lexeme}

-- the binary operators of an expression, those inside its brackets not counted
abbrev pub operators : {part : Form} {old new : List Lexeme} → Reads part old new → ℕ
operators (G.two h tight left right) = operators left + 1 + operators right
operators _ = 0

-- Over the tokens of an expression the scan's innermost count grows by the expression's operators,
-- and all else is as it was before them. Where none of the tokens is barred, the count stays
-- within the limit.
pub record Counts (count : ℕ) (old new : List Lexeme) (scan : Scan) : Type 0 where
  pub tokens : List Lexeme
  pub split : old ≡ tokens ++ new
  pub depth : (scan_from scan tokens).depth ≡ scan.depth
  pub innermost : top (scan_from scan tokens).counts ≡ top scan.counts + count
  pub around : under (scan_from scan tokens).counts ≡ under scan.counts
  pub ended : (scan_from scan tokens).ended ≡ true
  pub within : AreFree scan tokens → top scan.counts ≤ most_operators →
      top scan.counts + count ≤ most_operators

-- the tokens behind which the grammar has a whole expression
abbrev pub begins_expression : Lexeme → Bool
begins_expression (Lexeme.sign sign.OpenParen) = true
begins_expression (Lexeme.sign sign.OpenBracket) = true
begins_expression (Lexeme.sign sign.Comma) = true
begins_expression (Lexeme.sign sign.Assign) = true
begins_expression (Lexeme.word keyword.If _) = true
begins_expression (Lexeme.word keyword.Give _) = true
begins_expression _ = false

-- nothing has been counted of an expression that is to begin
pub record IsFresh (scan : Scan) : Type 0 where
  pub count : top scan.counts ≡ 0
  pub ended : scan.ended ≡ false
