use Rattle.std.proofs.Common.{◌≡◌, ◌≤◌, ◌++◌, ◌∷◌, List, length}
use Rattle.task_syntax.specs.declared.program.Event.{Event}
use Rattle.task_parse.specs.Grammar.{Form, Reads}
use Rattle.task_parse.specs.Lexeme.{Lexeme}
use Rattle.task_parse.specs.Machine.{Part, judge}
use Rattle.task_parse.proofs.event.events.Given as goal

abbrev pub invariant-loop-alloc : goal.invariant-loop-alloc
invariant-loop-alloc l = record {
  reads : (more : List Event) (rest : List Lexeme) → Reads (Form.Events more) l.cursor.rest rest
      → Reads (Form.Events (l.events ++ more)) l.fn.cursor.rest rest;
  gives : (k : List Part) → judge l.fn.cursor (Part.Events ∷ k) ≡ judge l.cursor (Part.Events ∷ k);
  shrinks : length l.cursor.rest ≤ length l.fn.cursor.rest;
}

abbrev pub decreases-loop-alloc : goal.decreases-loop-alloc
decreases-loop-alloc l = length l.cursor.rest
