-- The bodies of a program in their order: those of the tasks by number, and then of each event its
-- top half and its bottom half.
use Rattle.std.specs.Prelude.{ℕ, List, [], ◌∷◌, ◌++◌, map, flat_map}
use Rattle.task_syntax.specs.declared.program.Program.{Program}
use Rattle.task_syntax.specs.declared.program.Event.{Event}
use Rattle.task_syntax.specs.declared.program.TaskDecl.{TaskDecl}
use Rattle.task_syntax.specs.declared.name.Name.{Name}
use Rattle.task_syntax.specs.declared.statement.Stmt.{Stmt}
use Rattle.task_syntax.specs.declared.body.Kind.{Kind}
use Rattle.task_syntax.specs.declared.body.Kind.TheVariants.{Task, Top, Bottom}
use Rattle.task_syntax.specs.Names.{tasks}

-- a body, with the place of its task's or event's name, and the names that it takes
pub record BodyRead : Type 0 where
  pub at : ℕ
  pub kind : Kind
  pub params : List Name
  pub statements : List Stmt

-- a task takes no names
abbrev pub task_body : TaskDecl → BodyRead
task_body task = record { at = task.name.at; kind = Task; params = []; statements = task.body }

-- a top half takes the argument
abbrev pub top_half : Event → BodyRead
top_half event = record {
  at = event.name.at;
  kind = Top;
  params = event.argument ∷ [];
  statements = event.top;
}

-- a bottom half takes the parameters
abbrev pub bottom_half : Event → BodyRead
bottom_half event = record {
  at = event.name.at;
  kind = Bottom;
  params = event.params;
  statements = event.bottom;
}

-- the halves of an event
abbrev pub halves : Event → List BodyRead
halves event = top_half event ∷ bottom_half event ∷ []

-- the bodies in their order
abbrev pub bodies : Program → List BodyRead
bodies program = map task_body (tasks program) ++ flat_map halves program.events
