-- The bounds of a program, in machine steps: of one attempt, of the writes of one commit, of a
-- power period that suffices, and of one handler.
use Rattle.std.specs.Prelude.{ℕ, ◌+◌, ◌*◌, List, map, max}
use Rattle.task_syntax.specs.declared.program.Program.{Program}
use Rattle.task_syntax.specs.Depth.{greatest}
use Rattle.task_syntax.specs.Names.{tasks, word_count}
use Rattle.task_check.specs.Numbers.{buffer_size}
use Rattle.task_cost.specs.Bodies.{task_cost, event_cost}
use Rattle.task_cost.specs.declared.limits.Bounds.{Bounds}

-- the costs of the tasks
abbrev pub task_costs : Program → List ℕ
task_costs program = map (task_cost program) (tasks program)

-- those of the events, both halves together
abbrev pub event_costs : Program → List ℕ
event_costs program = map (event_cost program) program.events

-- the greatest cost of a task or an event
abbrev pub greatest_cost : Program → ℕ
greatest_cost program = max (greatest (task_costs program)) (greatest (event_costs program))

-- an attempt: its start, and the task or event that costs most
abbrev pub attempt_bound : Program → ℕ
attempt_bound program = 1 + greatest_cost program

-- a commit, or an undo: 8 writes for each variable word, and 20 more
abbrev pub commit_bound : Program → ℕ
commit_bound program = 8 * word_count program.vars + 20

-- a handler: no more than an attempt and a commit
abbrev pub handler_bound : Program → ℕ
handler_bound program = attempt_bound program + commit_bound program

-- a power period that suffices: an attempt and a commit for each posting that the buffer may hold,
-- for what is under way, for one undo, and for the task that follows
abbrev pub period_bound : Program → ℕ
period_bound program = (buffer_size program + 3) * handler_bound program

-- the four together
abbrev pub bounds_of : Program → Bounds
bounds_of program =
    record {
      c = attempt_bound program;
      a = commit_bound program;
      b = period_bound program;
      h = handler_bound program;
    }
