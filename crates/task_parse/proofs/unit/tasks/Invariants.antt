use Rattle.std.proofs.Common.{◌≡◌, ◌≢◌, ◌<◌, ◌++◌, ◌∷◌, List, [], length}
use Rattle.task_lex.specs.declared.keyword.Keyword.TheVariants as keyword
use Rattle.task_syntax.specs.declared.program.TaskDecl.{TaskDecl}
use Rattle.task_parse.specs.Grammar.{Form, Reads}
use Rattle.task_parse.specs.Lexeme.{Lexeme}
use Rattle.task_parse.specs.Machine.{Part, judge, task_then}
use Rattle.task_parse.proofs.unit.tasks.Given as goal

abbrev pub invariant-loop-alloc : goal.invariant-loop-alloc
invariant-loop-alloc l = record {
  reads : (more : List TaskDecl) (rest : List Lexeme) → Reads (Form.Tasks more) l.cursor.rest rest
      → Reads (Form.Tasks (l.tasks ++ more)) l.fn.cursor.rest rest;
  some : l.tasks ≢ [];
  gives : (k : List Part)
      → judge l.fn.cursor (Part.Word keyword.Task ∷ task_then (Part.Members ∷ k)) ≡ judge l.cursor (Part.Members ∷ k);
  shrinks : length l.cursor.rest < length l.fn.cursor.rest;
}

abbrev pub decreases-loop-alloc : goal.decreases-loop-alloc
decreases-loop-alloc l = length l.cursor.rest
