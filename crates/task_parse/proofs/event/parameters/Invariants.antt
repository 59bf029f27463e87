use Rattle.std.proofs.Common.{◌≡◌, ◌≤◌, ◌++◌, ◌∷◌, List, length}
use Rattle.task_syntax.specs.declared.name.Name.{Name}
use Rattle.task_parse.specs.Grammar.{Form, Reads}
use Rattle.task_parse.specs.Lexeme.{Lexeme}
use Rattle.task_parse.specs.Machine.{Part, judge}
use Rattle.task_parse.proofs.event.parameters.Given as goal

abbrev pub invariant-loop-alloc : goal.invariant-loop-alloc
invariant-loop-alloc l = record {
  reads : (more : List Name) (rest : List Lexeme) → Reads (Form.Names more) l.cursor.rest rest
      → Reads (Form.Params (l.params ++ more)) l.fn.cursor.rest rest;
  gives : (k : List Part) → judge l.fn.cursor (Part.Params ∷ k) ≡ judge l.cursor (Part.Names ∷ k);
  shrinks : length l.cursor.rest ≤ length l.fn.cursor.rest;
}

abbrev pub decreases-loop-alloc : goal.decreases-loop-alloc
decreases-loop-alloc l = length l.cursor.rest
