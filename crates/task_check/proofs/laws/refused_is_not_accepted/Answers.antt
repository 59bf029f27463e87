use Rattle.task_check.proofs.Refusals.{refused-not_accepted}
use Rattle.task_check.proofs.laws.refused_is_not_accepted.Goals as goal

pub returns : goal.returns
returns c = refused-not_accepted
