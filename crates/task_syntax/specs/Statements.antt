-- The course of statements and of bodies. The condition of an `if` holds where it isn't 0; a loop
-- runs its block for its name from 0 to its count less 1; `next`, `halt` and `give` end the body,
-- and a bottom half is done behind its last statement.
use Rattle.std.specs.Prelude.{ℕ, zero, suc, ◌+◌, ◌==◌, List, [], ◌∷◌, map, Option, Some, None, if◌then◌else◌}
use Rattle.coati_word.specs.declared.ending.Ending.{Ending}
use Rattle.coati_word.specs.declared.ending.Ending.TheVariants.{Next, Halt, Done, Given}
use Rattle.task_syntax.specs.declared.program.Program.{Program}
use Rattle.task_syntax.specs.declared.statement.Stmt.{Stmt}
use Rattle.task_syntax.specs.declared.statement.Stmt.TheOpen.{Stmt-F}
use Rattle.task_syntax.specs.declared.statement.Stmt.TheFolds.{fold-Stmt}
use Rattle.task_syntax.specs.Course.{Course, chain}
use Rattle.task_syntax.specs.Names.{task_of}
use Rattle.task_syntax.specs.Expressions.{Locals, with_local, Aim, expression, aim, expressions}

-- where a statement leads: on, with these locals, or out of the body
pub data Way : Type 0 where
  on : Locals → Way
  out : Ending → Way

-- what a statement does on locals
abbrev pub Conduct : Type 0
Conduct = Locals → Course Way

-- what follows, unless the body has ended
abbrev pub unless_out : Conduct → Way → Course Way
unless_out rest (Way.on locals) = rest locals
unless_out rest (Way.out ending) = Course.ends (Way.out ending)

-- one statement after another
abbrev pub in_turn : List Conduct → Conduct
in_turn [] locals = Course.ends (Way.on locals)
in_turn (first ∷ rest) locals = chain (first locals) (unless_out (in_turn rest))

-- the turns that a loop has left, the next of which has the number `turn`
abbrev pub turns : ℕ → ℕ → List ℕ → Conduct → Conduct
turns zero turn name block locals = Course.ends (Way.on locals)
turns (suc left) turn name block locals = chain (block (with_local name turn locals))
    (unless_out (turns left (turn + 1) name block))

-- what is assigned to a place
abbrev pub assigned : Locals → Aim → ℕ → Course Way
assigned locals (Aim.named name) value = Course.ends (Way.on (with_local name value locals))
assigned locals (Aim.in_word word) value = Course.writes word value (Course.ends (Way.on locals))

-- the block behind `else`, where there is one
abbrev pub otherwise : Option (List Conduct) → Conduct
otherwise None locals = Course.ends (Way.on locals)
otherwise (Some block) locals = in_turn block locals

-- a task that isn't there can't be gone on with
abbrev pub next_task : Option ℕ → Ending
next_task None = Halt
next_task (Some task) = Next task

-- a body that runs to its end is done
abbrev pub ending_of : Way → Course Ending
ending_of (Way.on locals) = Course.ends Done
ending_of (Way.out ending) = Course.ends ending

module _ (program : Program) where
  -- one layer of a statement, with the conduct of the statements in it
  abbrev pub statement_step : Stmt-F Conduct → Conduct
  statement_step (Stmt-F.Let name e) locals =
      chain (expression program e locals) (λ value. Course.ends
      (Way.on (with_local name.text value locals)))
  statement_step (Stmt-F.Assign place e) locals =
      chain (aim program place locals) (λ a. chain (expression program e locals)
      (assigned locals a))
  statement_step (Stmt-F.If condition block other) locals =
      chain (expression program condition locals)
      (λ value. if value == 0 then otherwise other locals else in_turn block locals)
  statement_step (Stmt-F.Repeat name count block) locals =
      turns count 0 name.text (in_turn block) locals
  statement_step (Stmt-F.Next name) locals = Course.ends
      (Way.out (next_task (task_of program name.text)))
  statement_step (Stmt-F.Halt at) locals = Course.ends (Way.out Halt)
  statement_step (Stmt-F.Give es at) locals =
      chain (expressions program es locals) (λ values. Course.ends (Way.out (Given values)))

  -- what a statement does
  abbrev pub statement : Stmt → Conduct
  statement = fold-Stmt Conduct statement_step

  -- what statements do, one after another
  abbrev pub statements : List Stmt → Conduct
  statements body = in_turn (map statement body)

  -- the course of a body on its parameters
  abbrev pub body : List Stmt → Locals → Course Ending
  body stmts locals = chain (statements stmts locals) ending_of
