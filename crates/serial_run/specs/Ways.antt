-- Where the code goes on: behind a statement that ended the body, or with the locals that stand
-- there.
use Rattle.std.specs.Prelude.{Option, Some, None}
use Rattle.coati_word.specs.declared.ending.Ending.{Ending}
use Rattle.task_syntax.specs.Expressions.{Locals}
use Rattle.task_syntax.specs.Statements.{Way}

abbrev pub way_of : Option Ending → Locals → Way
way_of None locals = Way.on locals
way_of (Some ending) locals = Way.out ending
