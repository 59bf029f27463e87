use Rattle.std.proofs.Common.{rules}
use Rattle.task_check.proofs.LoopParts.{least-assigned}
use Rattle.task_check.proofs.rules.loops.assigned_in_block.Goals as goal

pub returns : goal.returns
returns c = least-assigned _ c.args.block.now _ c.least_within.ensures (λ s at answered. search rules)
