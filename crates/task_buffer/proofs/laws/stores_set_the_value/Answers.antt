use Rattle.task_buffer.proofs.Stores.{stores_set}
use Rattle.task_buffer.proofs.laws.stores_set_the_value.Goals as goal

pub returns : goal.returns
returns c = λ s log word value part r has low begun. stores_set s log word value r part low begun
