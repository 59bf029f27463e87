use Rattle.std.proofs.Common.{◌≡◌, ◌<◌, ◌++◌, ◌∷◌, List, length}
use Rattle.task_lex.specs.declared.symbol.Symbol.TheVariants as sign
use Rattle.task_syntax.specs.declared.expression.Expr.{Expr}
use Rattle.task_parse.specs.Grammar.{Form, Reads}
use Rattle.task_parse.specs.Lexeme.{Lexeme}
use Rattle.task_parse.specs.Machine.{Part, judge}
use Rattle.task_parse.proofs.statement.values.Given as goal

abbrev pub invariant-loop-alloc : goal.invariant-loop-alloc
invariant-loop-alloc l = record {
  reads : (more : List Expr) (rest : List Lexeme) → Reads (Form.More more) l.cursor.rest rest
      → Reads (Form.Values (l.values ++ more)) l.fn.cursor.rest rest;
  gives : (k : List Part)
      → judge l.fn.cursor (Part.Values ∷ Part.Sign sign.Semicolon ∷ k) ≡ judge l.cursor
      (Part.More ∷ Part.Sign sign.Semicolon ∷ k);
  shrinks : length l.cursor.rest < length l.fn.cursor.rest;
}

abbrev pub decreases-loop-alloc : goal.decreases-loop-alloc
decreases-loop-alloc l = length l.cursor.rest
