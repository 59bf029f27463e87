use Rattle.coati_explain.proofs.Spots.{LiesAt-spot_at, line_of-behind}
use Rattle.coati_explain.proofs.laws.places_lie_in_their_lines.Goals as goal

pub returns-clause-spot : goal.returns-clause-spot
returns-clause-spot c = LiesAt-spot_at

pub returns-clause-line : goal.returns-clause-line
returns-clause-line c = line_of-behind
