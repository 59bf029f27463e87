use Rattle.std.proofs.Common.{rules}
use Rattle.task_check.specs.Tops.{named_in_block}
use Rattle.task_check.proofs.rules.tops.least_in_events.Goals as goal

pub returns : goal.returns
returns c = c.least_among.ensures (λ event. named_in_block c.args.program.now event.top) (λ event at answered. search rules)
