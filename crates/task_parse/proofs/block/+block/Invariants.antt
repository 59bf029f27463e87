use Rattle.std.proofs.Common.{◌≡◌, ◌≤◌, ◌+◌, ◌*◌, ◌∷◌, ◌++◌, List, length}
use Rattle.task_syntax.specs.declared.statement.Stmt.{Stmt}
use Rattle.task_parse.specs.Grammar.{Form, Reads}
use Rattle.task_parse.specs.Lexeme.{Lexeme}
use Rattle.task_parse.specs.Machine.{Part, judge}
use Rattle.task_parse.proofs.block.+block.Given as goal

abbrev pub decreases-block : goal.decreases-block
decreases-block l = 3 * length l.cursor.now.rest

abbrev pub decreases-statements : goal.decreases-statements
decreases-statements l = 3 * length l.cursor.now.rest + 2

abbrev pub decreases-statement : goal.decreases-statement
decreases-statement l = 3 * length l.cursor.now.rest + 1

abbrev pub decreases-choice : goal.decreases-choice
decreases-choice l = 3 * length l.cursor.now.rest

abbrev pub decreases-otherwise : goal.decreases-otherwise
decreases-otherwise l = 3 * length l.cursor.now.rest

abbrev pub decreases-repetition : goal.decreases-repetition
decreases-repetition l = 3 * length l.cursor.now.rest

abbrev pub invariant-statements-loop-alloc : goal.invariant-statements-loop-alloc
invariant-statements-loop-alloc l = record {
  reads : (more : List Stmt) (rest : List Lexeme) → Reads (Form.Rest more) l.cursor.rest rest
      → Reads (Form.Rest (l.statements ++ more)) l.fn.cursor.rest rest;
  gives : (k : List Part) → judge l.fn.cursor (Part.Body ∷ k) ≡ judge l.cursor (Part.Body ∷ k);
  shrinks : length l.cursor.rest ≤ length l.fn.cursor.rest;
}

abbrev pub decreases-statements-loop-alloc : goal.decreases-statements-loop-alloc
decreases-statements-loop-alloc l = length l.cursor.rest
