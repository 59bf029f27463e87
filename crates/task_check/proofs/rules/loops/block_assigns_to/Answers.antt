use Rattle.std.proofs.Common.{rules}
use Rattle.task_check.specs.Assignments.{assigns_step}
use Rattle.task_check.proofs.LoopParts.{of_assigns}
use Rattle.task_check.proofs.WithinParts.{least-within}
use Rattle.task_check.proofs.rules.loops.block_assigns_to.Goals as goal

pub returns : goal.returns
returns c = least-within (assigns_step c.args.text.now) (of_assigns c.args.text.now) _ c.args.block.now _ c.least_within.ensures (λ s at answered. search rules)
