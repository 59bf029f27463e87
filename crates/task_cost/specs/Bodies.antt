-- What each body of a program costs, in machine steps.
use Rattle.std.specs.Prelude.{ℕ, ◌+◌, slice_get}
use Rattle.std.specs.Option.{option_map_or}
use Rattle.task_syntax.specs.declared.body.BodyId.{BodyId}
use Rattle.task_syntax.specs.declared.body.BodyId.TheVariants.{Task, Top, Bottom}
use Rattle.task_syntax.specs.declared.body.Kind.TheVariants as kind
use Rattle.task_syntax.specs.declared.program.Program.{Program}
use Rattle.task_syntax.specs.declared.program.Event.{Event}
use Rattle.task_syntax.specs.declared.program.TaskDecl.{TaskDecl}
use Rattle.task_syntax.specs.Cost.{body_cost}
use Rattle.task_syntax.specs.Names.{tasks}

-- the cost of a task
abbrev pub task_cost : Program → TaskDecl → ℕ
task_cost program task = body_cost program task.body kind.Task

-- those of an event's two halves
abbrev pub top_cost : Program → Event → ℕ
top_cost program event = body_cost program event.top kind.Top

abbrev pub bottom_cost : Program → Event → ℕ
bottom_cost program event = body_cost program event.bottom kind.Bottom

-- their sum
abbrev pub event_cost : Program → Event → ℕ
event_cost program event = top_cost program event + bottom_cost program event

-- the cost of a body by its number; one that isn't there costs nothing
abbrev pub cost_of : Program → BodyId → ℕ
cost_of program (Task task) = option_map_or (task_cost program) (slice_get (tasks program) task) 0
cost_of program (Top event) = option_map_or (top_cost program) (slice_get program.events event) 0
cost_of program (Bottom event) = option_map_or (bottom_cost program)
    (slice_get program.events event) 0
