use Rattle.task_parse.proofs.Counted as C
use Rattle.task_parse.proofs.laws.operators_are_counted.Goals as goal

pub returns : goal.returns
returns c = record { counted = (λ least e old new read. C.expression read); fresh = C.fresh }
