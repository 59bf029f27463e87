use Rattle.commit_log.proofs.Commits.{commits_keep, commits_keep_unit}
use Rattle.commit_log.proofs.laws.commits_keep.Goals as goal

pub returns-clause-keep : goal.returns-clause-keep
returns-clause-keep c = commits_keep

pub returns-clause-unit : goal.returns-clause-unit
returns-clause-unit c = commits_keep_unit
