use Rattle.task_syntax.proofs.Moments.{after-unwritten}
use Rattle.task_syntax.proofs.laws.unwritten_words_stay.Goals as goal

pub returns : goal.returns
returns c = after-unwritten
