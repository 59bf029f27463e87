use Rattle.commit_log.proofs.Ends.{commits_go_on, few_left, few_of_events, none_left}
use Rattle.commit_log.proofs.laws.commits_end.Goals as goal

pub returns-clause-go_on : goal.returns-clause-go_on
returns-clause-go_on c = commits_go_on

pub returns-clause-few : goal.returns-clause-few
returns-clause-few c = few_left

pub returns-clause-few_of_events : goal.returns-clause-few_of_events
returns-clause-few_of_events c = few_of_events

pub returns-clause-none : goal.returns-clause-none
returns-clause-none c = none_left
