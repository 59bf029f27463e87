use Rattle.coati_pace.proofs.Ranges.{restarts_within}
use Rattle.coati_pace.proofs.laws.restarts_are_bounded.Goals as goal

pub returns : goal.returns
returns c = restarts_within
