-- What `check` says of an accepted program: its words, its buffer, what each task and each event
-- costs, and its bounds.
use Rattle.std.specs.Prelude.{ℕ, List, ◌++◌, codes, decimal, flat_map}
use Rattle.task_syntax.specs.declared.program.Program.{Program}
use Rattle.task_syntax.specs.declared.program.Event.{Event}
use Rattle.task_syntax.specs.declared.program.TaskDecl.{TaskDecl}
use Rattle.task_syntax.specs.Names.{tasks, word_count}
use Rattle.task_check.specs.Numbers.{buffer_size}
use Rattle.task_cost.specs.Bodies.{event_cost, task_cost}
use Rattle.task_cost.specs.Limits.{bounds_of}
use Rattle.task_cost.specs.declared.limits.Bounds.{Bounds}
use Rattle.trace_out.specs.Lines.{number_line}

-- what a task or an event of a name costs
abbrev pub cost_line : List ℕ → List ℕ → ℕ → List ℕ
cost_line kind name cost = kind ++ codes " " ++ name ++ codes " cost " ++ decimal cost
    ++ codes "\n"

abbrev pub task_line : Program → TaskDecl → List ℕ
task_line program task = cost_line (codes "task") task.name.text (task_cost program task)

-- an event costs what its two halves do
abbrev pub event_line : Program → Event → List ℕ
event_line program event = cost_line (codes "event") event.name.text (event_cost program event)

abbrev pub bounds_line : Bounds → List ℕ
bounds_line bounds =
    codes "bounds " ++ decimal bounds.c ++ codes " " ++ decimal bounds.a ++ codes " "
    ++ decimal bounds.b ++ codes " " ++ decimal bounds.h ++ codes "\n"

-- the whole text
abbrev pub check_text : Program → List ℕ
check_text program =
    codes "accepted\n" ++ number_line (codes "words") (word_count program.vars)
    ++ number_line (codes "buffer") (buffer_size program)
    ++ flat_map (task_line program) (tasks program) ++ flat_map (event_line program) program.events
    ++ bounds_line (bounds_of program)
