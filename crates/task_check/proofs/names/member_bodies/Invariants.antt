use Rattle.std.proofs.Common.{◌≡◌, drop, map}
use Rattle.task_check.specs.Mentions.{in_turn, body_part}
use Rattle.task_check.specs.Walk.{behind}
use Rattle.task_check.proofs.names.member_bodies.Given as goal

abbrev pub invariant-loop-task : goal.invariant-loop-task
invariant-loop-task l = behind (in_turn (map body_part (drop l.task-index l.tasks))) l.walk ≡ behind (in_turn (map body_part l.tasks)) l.initial.walk
