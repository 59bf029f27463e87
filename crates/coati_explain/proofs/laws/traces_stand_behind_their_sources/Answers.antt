use Rattle.coati_explain.proofs.Dividing.{line_of-divider, line_of-trace}
use Rattle.coati_explain.proofs.laws.traces_stand_behind_their_sources.Goals as goal

pub returns-clause-divider : goal.returns-clause-divider
returns-clause-divider c = line_of-divider

pub returns-clause-lines : goal.returns-clause-lines
returns-clause-lines c = line_of-trace
