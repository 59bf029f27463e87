use Rattle.task_syntax.proofs.Quiet.{only_reads}
use Rattle.task_syntax.proofs.laws.expressions_only_read.Goals as goal

pub returns : goal.returns
returns c = only_reads
