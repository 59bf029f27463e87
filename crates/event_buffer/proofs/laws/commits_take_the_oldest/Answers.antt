use Rattle.event_buffer.proofs.Turning.{frees_leave, marks_take, prepares_leave}
use Rattle.event_buffer.proofs.laws.commits_take_the_oldest.Goals as goal

pub returns-clause-prepare : goal.returns-clause-prepare
returns-clause-prepare c = prepares_leave

pub returns-clause-mark : goal.returns-clause-mark
returns-clause-mark c = marks_take

pub returns-clause-free : goal.returns-clause-free
returns-clause-free c = frees_leave
