use Rattle.task_syntax.proofs.Written.{after-last}
use Rattle.task_syntax.proofs.laws.last_writes_tell_the_store.Goals as goal

pub returns : goal.returns
returns c = after-last
