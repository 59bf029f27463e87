use Rattle.std.proofs.Common.{ap, ◌∙◌, sym, arith, drop, map, ◌+◌}
use Rattle.task_check.specs.Mentions.{in_turn, task_part}
use Rattle.task_check.specs.Walk.{behind}
use Rattle.task_check.proofs.Walking.{behind-from, behind-past}
use Rattle.task_check.proofs.names.members.Goals as goal

pub loop-task-preserved : goal.loop-task-preserved
loop-task-preserved c =
    let tasks = c.args.tasks.now in
    let i = c.loop-task.task-index in
    let step = behind-from task_part tasks i c.task-item.result c.loop-task.walk (omega arith) c.task-item.is in
    ap (behind (in_turn (map task_part (drop (i + 1) tasks)))) c.in_ok-declare.ensures ∙ sym step ∙ c.loop-task.invariant

pub returns : goal.returns
returns c = sym (behind-past task_part c.args.tasks.now c.loop-task.task-index c.loop-task.walk (omega arith)) ∙ c.loop-task.invariant
