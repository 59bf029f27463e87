-- The names of a program where they stand, each with what it stands for there. A local is in scope
-- from the end of its declaration to the end of its block, a loop's name in the loop's block
-- alone.
use Rattle.std.specs.Prelude.{ℕ, List, [], ◌∷◌, ◌++◌, map, flat_map, Option, Some, None}
use Rattle.task_syntax.specs.declared.name.Name.{Name}
use Rattle.task_syntax.specs.declared.program.Program.{Program}
use Rattle.task_syntax.specs.declared.program.Event.{Event}
use Rattle.task_syntax.specs.declared.program.Var.{Var}
use Rattle.task_syntax.specs.declared.program.TaskDecl.{TaskDecl}
use Rattle.task_syntax.specs.declared.program.UnitDecl.{UnitDecl}
use Rattle.task_syntax.specs.declared.program.UnitDecl.TheVariants.{Lone, Tx}
use Rattle.task_syntax.specs.declared.expression.Expr.{Expr}
use Rattle.task_syntax.specs.declared.expression.Place.{Place}
use Rattle.task_syntax.specs.declared.expression.Expr.TheOpen.{Expr-F, Place-F}
use Rattle.task_syntax.specs.declared.expression.Expr.TheFolds.{fold-Expr, fold-Place}
use Rattle.task_syntax.specs.declared.statement.Stmt.{Stmt}
use Rattle.task_syntax.specs.declared.statement.Stmt.TheOpen.{Stmt-F}
use Rattle.task_syntax.specs.declared.statement.Stmt.TheFolds.{fold-Stmt}
use Rattle.task_syntax.specs.Names.{tasks_of_unit}
use Rattle.task_check.specs.declared.meaning.Meaning.{Meaning}
use Rattle.task_check.specs.declared.meaning.Meaning.TheVariants as meaning
use Rattle.task_check.specs.declared.role.Role.{Role}
use Rattle.task_check.specs.declared.role.Role.TheVariants as role
use Rattle.task_check.specs.Scope.{Scope, meaning_of, with_name}

-- a name where it stands, how it stands there, and what for, where it is in scope
pub record Mention : Type 0 where
  pub name : Name
  pub role : Role
  pub meaning : Option Meaning

-- a name where it stands in a scope
abbrev pub mention : Role → Name → Scope → Mention
mention role name scope = record { name = name; role = role; meaning = meaning_of scope name.text }

-- what a part of a program mentions, and the scope behind it
pub record Passed : Type 0 where
  pub mentions : List Mention
  pub scope : Scope

-- a part of a program, on the scope before it
abbrev pub Part : Type 0
Part = Scope → Passed

-- names that are used
abbrev pub uses : (Scope → List Mention) → Part
uses names scope = record { mentions = names scope; scope = scope }

-- a name that is declared
abbrev pub declares : Meaning → Name → Part
declares meaning name scope = record {
  mentions = mention role.Declared name scope ∷ [];
  scope = with_name scope name.text meaning;
}

-- one part behind another
abbrev pub chain : Part → Part → Part
chain first second scope =
    record {
      mentions = (first scope).mentions ++ (second (first scope).scope).mentions;
      scope = (second (first scope).scope).scope;
    }

-- parts, one behind another
abbrev pub in_turn : List Part → Part
in_turn [] scope = record { mentions = []; scope = scope }
in_turn (first ∷ more) scope = chain first (in_turn more) scope

-- a block: what it declares is in scope up to its end
abbrev pub within : Part → Part
within block scope = record { mentions = (block scope).mentions; scope = scope }

-- one layer of an expression
abbrev pub expression_mentions_step : Expr-F (Scope → List Mention) (Scope → List Mention) →
    Scope → List Mention
expression_mentions_step (Expr-F.Num number) scope = []
expression_mentions_step (Expr-F.Get place) scope = place scope
expression_mentions_step (Expr-F.One op operand) scope = operand scope
expression_mentions_step (Expr-F.Two op left right) scope = left scope ++ right scope

-- one layer of a place
abbrev pub place_mentions_step : Place-F (Scope → List Mention) (Scope → List Mention) → Scope →
    List Mention
place_mentions_step (Place-F.Plain name) scope = mention role.Plain name scope ∷ []
place_mentions_step (Place-F.Item name index) scope = mention role.Item name scope ∷ index scope

-- the names of an expression
abbrev pub expression_mentions : Expr → Scope → List Mention
expression_mentions = fold-Expr (Scope → List Mention) (Scope →
    List Mention) expression_mentions_step place_mentions_step

-- the names of a place
abbrev pub place_mentions : Place → Scope → List Mention
place_mentions = fold-Place (Scope → List Mention) (Scope →
    List Mention) expression_mentions_step place_mentions_step

-- the names of expressions, one after another
abbrev pub expressions_mentions : List Expr → Scope → List Mention
expressions_mentions es scope = flat_map (λ e. expression_mentions e scope) es

-- the block behind `else`, where there is one
abbrev pub otherwise : Option (List Part) → Part
otherwise None = in_turn []
otherwise (Some block) = within (in_turn block)

-- one layer of a statement
abbrev pub statement_part_step : Stmt-F Part → Part
statement_part_step (Stmt-F.Let name e) = chain (uses (expression_mentions e))
    (declares meaning.Local name)
statement_part_step (Stmt-F.Assign place e) =
    chain (uses (place_mentions place)) (uses (expression_mentions e))
statement_part_step (Stmt-F.If condition block other) =
    chain (uses (expression_mentions condition)) (chain (within (in_turn block)) (otherwise other))
statement_part_step (Stmt-F.Repeat name count block) =
    within (chain (declares meaning.Local name) (in_turn block))
statement_part_step (Stmt-F.Next name) = uses (λ scope. mention role.Next name scope ∷ [])
statement_part_step (Stmt-F.Halt at) = in_turn []
statement_part_step (Stmt-F.Give es at) = uses (expressions_mentions es)

-- what a statement is
abbrev pub statement_part : Stmt → Part
statement_part = fold-Stmt Part statement_part_step

-- what statements are, one after another
abbrev pub statements_part : List Stmt → Part
statements_part block = in_turn (map statement_part block)

-- names that are declared alike, one after another
abbrev pub declares_all : Meaning → List Name → Part
declares_all meaning names = in_turn (map (declares meaning) names)

-- what a variable of this length is
abbrev pub var_meaning : Option ℕ → Meaning
var_meaning None = meaning.Scalar
var_meaning (Some length) = meaning.Array

-- a variable's name, declared
abbrev pub var_part : Var → Part
var_part var = declares (var_meaning var.length) var.name

-- an event's name
abbrev pub event_part : Event → Part
event_part event = declares meaning.Event event.name

-- a task's name
abbrev pub task_part : TaskDecl → Part
task_part task = declares meaning.Task task.name

-- a task's name, or a transaction's and those of its tasks
abbrev pub unit_part : UnitDecl → Part
unit_part (Lone task) = task_part task
unit_part (Tx tx) = chain (declares meaning.Transaction tx.name) (in_turn (map task_part tx.tasks))

-- the global names, in the order of their declarations
unfoldable pub globals_part : Program → Part
globals_part program = chain (in_turn (map var_part program.vars))
    (chain (in_turn (map event_part program.events)) (in_turn (map unit_part program.units)))

-- the two halves of an event
unfoldable pub halves_part : Event → Part
halves_part event =
    chain (within (chain (declares meaning.Local event.argument) (statements_part event.top)))
    (within (chain (declares_all meaning.Local event.params) (statements_part event.bottom)))

-- the body of a task
abbrev pub body_part : TaskDecl → Part
body_part task = within (statements_part task.body)

-- the bodies of a unit's tasks
abbrev pub unit_bodies : UnitDecl → Part
unit_bodies unit = in_turn (map body_part (tasks_of_unit unit))

-- the bodies, each of which sees all global names
unfoldable pub bodies_part : Program → Part
bodies_part program = chain (in_turn (map halves_part program.events))
    (in_turn (map unit_bodies program.units))

-- the names of a program
abbrev pub mentions : Program → List Mention
mentions program = (chain (globals_part program) (bodies_part program) []).mentions
