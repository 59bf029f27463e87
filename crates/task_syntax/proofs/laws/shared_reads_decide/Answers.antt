use Rattle.task_syntax.proofs.Frames.{does_the_same}
use Rattle.task_syntax.proofs.UnitFrames.{tasks_do_the_same, whole_does_the_same}
use Rattle.task_syntax.proofs.laws.shared_reads_decide.Goals as goal

pub returns-clause-expressions : goal.returns-clause-expressions
returns-clause-expressions c = λ course s t agree. does_the_same course s t agree

pub returns-clause-statements : goal.returns-clause-statements
returns-clause-statements c = λ course s t agree. does_the_same course s t agree

pub returns-clause-bodies : goal.returns-clause-bodies
returns-clause-bodies c = λ course s t agree. does_the_same course s t agree

pub returns-clause-units : goal.returns-clause-units
returns-clause-units c = tasks_do_the_same

pub returns-clause-whole_units : goal.returns-clause-whole_units
returns-clause-whole_units c = whole_does_the_same
