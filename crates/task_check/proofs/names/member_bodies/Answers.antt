use Rattle.std.proofs.Common.{ap, ◌∙◌, sym, arith, drop, map, ◌+◌}
use Rattle.task_check.specs.Mentions.{in_turn, body_part}
use Rattle.task_check.specs.Walk.{behind}
use Rattle.task_check.proofs.Walking.{behind-from, behind-past}
use Rattle.task_check.proofs.names.member_bodies.Goals as goal

pub loop-task-preserved : goal.loop-task-preserved
loop-task-preserved c =
    let tasks = c.args.tasks.now in
    let i = c.loop-task.task-index in
    let step = behind-from body_part tasks i c.task-item.result c.loop-task.walk (omega arith) c.task-item.is in
    ap (behind (in_turn (map body_part (drop (i + 1) tasks)))) c.in_ok-body.ensures ∙ sym step ∙ c.loop-task.invariant

pub returns : goal.returns
returns c = sym (behind-past body_part c.args.tasks.now c.loop-task.task-index c.loop-task.walk (omega arith)) ∙ c.loop-task.invariant
