-- What an expression has come to between two of its operators.
use Rattle.std.specs.Prelude.{ℕ, suc, ◌≤◌, List}
use Rattle.task_syntax.specs.declared.expression.Expr.{Expr}
use Rattle.task_parse.specs.Grammar.{Form, Reads}
use Rattle.task_parse.specs.Lexeme.{Lexeme}
use Rattle.task_parse.specs.Spots.{Below}

-- x is the expression so far, of some level that is at least the least, and no tighter operator stands behind it
pub record Climbs (least : ℕ) (x : Expr) (old new : List Lexeme) : Type 0 where
  pub top : ℕ
  pub low : least ≤ top
  pub reads : Reads (Form.Level top x) old new
  pub below : Below (suc top) new
