use Rattle.std.proofs.Common.{rules}
use Rattle.task_check.specs.Tops.{named_step}
use Rattle.task_check.proofs.TopParts.{of_names}
use Rattle.task_check.proofs.WithinParts.{least-within}
use Rattle.task_check.proofs.rules.tops.named_in_block.Goals as goal

pub returns : goal.returns
returns c = least-within (named_step c.args.program.now) (of_names c.args.program.now) _ c.args.block.now _ c.least_within.ensures (λ s at answered. search rules)
