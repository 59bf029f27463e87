use Rattle.std.proofs.Common.{◌≡◌, ◌≢◌, ◌++◌, ◌∷◌, List, [], length}
use Rattle.task_syntax.specs.declared.program.UnitDecl.{UnitDecl}
use Rattle.task_parse.specs.Grammar.{Form, Reads}
use Rattle.task_parse.specs.Lexeme.{Lexeme}
use Rattle.task_parse.specs.Machine.{Part, judge}
use Rattle.task_parse.proofs.unit.units.Given as goal

abbrev pub invariant-loop-alloc : goal.invariant-loop-alloc
invariant-loop-alloc l = record {
  reads : (more : List UnitDecl) (rest : List Lexeme) → Reads (Form.Units more) l.cursor.rest rest
      → Reads (Form.Units (l.units ++ more)) l.fn.cursor.rest rest;
  some : l.units ≢ [];
  ends : judge l.fn.cursor (Part.AUnit ∷ Part.Units ∷ []) ≡ judge l.cursor (Part.Units ∷ []);
}

abbrev pub decreases-loop-alloc : goal.decreases-loop-alloc
decreases-loop-alloc l = length l.cursor.rest
