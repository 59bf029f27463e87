use Rattle.std.proofs.Common.{◌≡◌, drop, map}
use Rattle.task_check.specs.Mentions.{in_turn, task_part}
use Rattle.task_check.specs.Walk.{behind}
use Rattle.task_check.proofs.names.members.Given as goal

abbrev pub invariant-loop-task : goal.invariant-loop-task
invariant-loop-task l = behind (in_turn (map task_part (drop l.task-index l.tasks))) l.walk ≡ behind (in_turn (map task_part l.tasks)) l.initial.walk
