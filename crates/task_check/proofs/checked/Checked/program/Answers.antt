use Rattle.std.proofs.Common.{subst}
use Rattle.task_check.specs.Accepted.{IsAccepted}
use Rattle.task_check.proofs.Messages.{short_messages}
use Rattle.task_check.proofs.SizesHold.{sizes}
use Rattle.task_check.proofs.checked.Checked.program.Goals as goal

pub returns-clause-accepted : goal.returns-clause-accepted
returns-clause-accepted c = subst IsAccepted c.self.view_is c.self.invariant.0

pub returns-clause-sizes : goal.returns-clause-sizes
returns-clause-sizes c = sizes c.self.inside.program c.self.invariant.0 c.self.invariant.1

pub returns-clause-messages : goal.returns-clause-messages
returns-clause-messages c = short_messages c.self.inside.program c.self.invariant.0
