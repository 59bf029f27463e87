use Rattle.std.proofs.Common.{◌≡◌, ◌<◌, ◌++◌, ◌∷◌, ℕ, List, length}
use Rattle.task_lex.specs.declared.symbol.Symbol.TheVariants as sign
use Rattle.task_syntax.specs.declared.program.Init.TheVariants as init
use Rattle.task_parse.specs.Grammar.{Form, Reads}
use Rattle.task_parse.specs.Lexeme.{Lexeme}
use Rattle.task_parse.specs.Machine.{Part, judge}
use Rattle.task_parse.proofs.declaration.values.Given as goal

abbrev pub invariant-loop-cursor : goal.invariant-loop-cursor
invariant-loop-cursor l = record {
  reads : (more : List ℕ) (rest : List Lexeme)
      → Reads (Form.Numbers more) l.cursor.rest (Lexeme.sign sign.CloseBrace ∷ rest)
      → Reads (Form.Given (init.Many (l.values ++ more))) (Lexeme.sign sign.Assign ∷ l.fn.cursor.rest) rest;
  gives : (k : List Part)
      → judge l.fn.cursor (Part.Sign sign.OpenBrace ∷ Part.ANumber ∷ Part.Numbers ∷ Part.Sign sign.CloseBrace ∷ k)
      ≡ judge l.cursor (Part.Numbers ∷ Part.Sign sign.CloseBrace ∷ k);
  shrinks : length l.cursor.rest < length l.fn.cursor.rest;
}

abbrev pub decreases-loop-cursor : goal.decreases-loop-cursor
decreases-loop-cursor l = length l.cursor.rest
