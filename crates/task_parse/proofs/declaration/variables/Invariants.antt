use Rattle.std.proofs.Common.{◌≡◌, ◌≢◌, ◌<◌, ◌++◌, ◌∷◌, List, [], length}
use Rattle.task_lex.specs.declared.keyword.Keyword.TheVariants as keyword
use Rattle.task_syntax.specs.declared.program.Var.{Var}
use Rattle.task_parse.specs.Grammar.{Form, Reads}
use Rattle.task_parse.specs.Lexeme.{Lexeme}
use Rattle.task_parse.specs.Machine.{Part, judge, variable_then}
use Rattle.task_parse.proofs.declaration.variables.Given as goal

abbrev pub invariant-loop-alloc : goal.invariant-loop-alloc
invariant-loop-alloc l = record {
  reads : (more : List Var) (rest : List Lexeme) → Reads (Form.Variables more) l.cursor.rest rest
      → Reads (Form.Variables (l.vars ++ more)) l.fn.cursor.rest rest;
  some : l.vars ≢ [];
  gives : (k : List Part)
      → judge l.fn.cursor (Part.Word keyword.Nv ∷ variable_then (Part.Variables ∷ k)) ≡ judge l.cursor
      (Part.Variables ∷ k);
  shrinks : length l.cursor.rest < length l.fn.cursor.rest;
}

abbrev pub decreases-loop-alloc : goal.decreases-loop-alloc
decreases-loop-alloc l = length l.cursor.rest
