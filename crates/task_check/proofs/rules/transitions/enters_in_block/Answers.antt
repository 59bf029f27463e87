use Rattle.std.proofs.Common.{rules}
use Rattle.task_check.specs.Transitions.{into_step}
use Rattle.task_check.proofs.TransitionParts.{of_transitions}
use Rattle.task_check.proofs.WithinParts.{least-within}
use Rattle.task_check.proofs.rules.transitions.enters_in_block.Goals as goal

pub returns : goal.returns
returns c = least-within (into_step c.args.program.now c.args.own) (of_transitions c.args.program.now c.args.own) _ c.args.block.now _ c.least_within.ensures (λ s at answered. search rules)
