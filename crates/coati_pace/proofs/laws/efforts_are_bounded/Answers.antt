use Rattle.coati_pace.proofs.Bounds.{bounded}
use Rattle.coati_pace.proofs.laws.efforts_are_bounded.Goals as goal

pub returns : goal.returns
returns c = bounded
