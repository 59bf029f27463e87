use Rattle.std.proofs.Common.{◌≡◌, drop, map}
use Rattle.codegen.specs.Compiling.{with_bodies}
use Rattle.codegen.specs.Templates.{task_words}
use Rattle.codegen.proofs.compiler.put_tasks.Given as goal

abbrev pub invariant-loop-task : goal.invariant-loop-task
invariant-loop-task l = with_bodies (map (task_words l.checked) (drop l.task-index l.tasks)) l.code ≡ with_bodies (map (task_words l.checked) l.tasks) l.initial.code
