use Rattle.task_syntax.proofs.Joined.{joins_up}
use Rattle.task_syntax.proofs.laws.accesses_join_up.Goals as goal

pub returns : goal.returns
returns c = joins_up
