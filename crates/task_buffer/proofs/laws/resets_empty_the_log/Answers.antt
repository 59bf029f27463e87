use Rattle.task_buffer.proofs.Stores.{emptied}
use Rattle.task_buffer.proofs.laws.resets_empty_the_log.Goals as goal

pub returns : goal.returns
returns c = λ s log r has. emptied s log r
