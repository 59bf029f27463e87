use Rattle.task_syntax.proofs.UnderWay.{goes-on}
use Rattle.task_syntax.proofs.laws.courses_under_way_go_on.Goals as goal

pub returns-clause-expressions : goal.returns-clause-expressions
returns-clause-expressions c = λ whole base done rest come. goes-on whole base done rest come

pub returns-clause-statements : goal.returns-clause-statements
returns-clause-statements c = λ whole base done rest come. goes-on whole base done rest come

pub returns-clause-bodies : goal.returns-clause-bodies
returns-clause-bodies c = λ whole base done rest come. goes-on whole base done rest come
