use Rattle.task_check.proofs.Messages.{short_messages}
use Rattle.task_check.proofs.laws.accepted_messages_are_short.Goals as goal

pub returns : goal.returns
returns c = short_messages
