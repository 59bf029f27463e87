use Rattle.std.proofs.Common.{rules}
use Rattle.task_check.specs.Transitions.{enters_in_member}
use Rattle.task_check.proofs.rules.transitions.enters_in_tasks.Goals as goal

pub returns : goal.returns
returns c = c.least_among.ensures (λ task. enters_in_member c.args.program.now (c.args.own, task)) (λ task at answered. search rules)
