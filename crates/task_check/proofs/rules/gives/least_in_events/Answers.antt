use Rattle.std.proofs.Common.{rules}
use Rattle.task_check.specs.Gives.{give_shape}
use Rattle.task_check.proofs.rules.gives.least_in_events.Goals as goal

pub returns : goal.returns
returns c = c.least_among.ensures give_shape (λ event at answered. search rules)
