use Rattle.task_syntax.proofs.Moments.{reading_is}
use Rattle.task_syntax.proofs.laws.readings_tell_the_store.Goals as goal

pub returns-clause-expressions : goal.returns-clause-expressions
returns-clause-expressions c = λ course store before more word value is. reading_is course store before more word value is

pub returns-clause-statements : goal.returns-clause-statements
returns-clause-statements c = λ course store before more word value is. reading_is course store before more word value is

pub returns-clause-bodies : goal.returns-clause-bodies
returns-clause-bodies c = λ course store before more word value is. reading_is course store before more word value is
