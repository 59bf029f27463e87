use Rattle.task_syntax.proofs.Written.{tells-written}
use Rattle.task_syntax.proofs.laws.written_words_are_told.Goals as goal

pub returns : goal.returns
returns c = tells-written
