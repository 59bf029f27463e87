use Rattle.coati_pace.proofs.Falls.{steps_fall}
use Rattle.coati_pace.proofs.laws.steps_lower.Goals as goal

pub returns : goal.returns
returns c = steps_fall
