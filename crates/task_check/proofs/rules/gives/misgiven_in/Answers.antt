use Rattle.std.proofs.Common.{rules}
use Rattle.task_check.specs.Gives.{misgiven_step}
use Rattle.task_check.proofs.GiveParts.{of_gives}
use Rattle.task_check.proofs.WithinParts.{least-within}
use Rattle.task_check.proofs.rules.gives.misgiven_in.Goals as goal

pub returns : goal.returns
returns c = least-within (misgiven_step c.args.count) (of_gives c.args.count) _ c.args.block.now _ c.least_within.ensures (λ s at answered. search rules)
