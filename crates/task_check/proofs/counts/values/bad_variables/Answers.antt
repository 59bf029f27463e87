use Rattle.std.proofs.Common.{rules}
use Rattle.task_check.specs.Counts.{bad_var}
use Rattle.task_check.proofs.counts.values.bad_variables.Goals as goal

pub returns : goal.returns
returns c = c.least_among.ensures bad_var (λ var at answered. search rules)
