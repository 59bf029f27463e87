use Rattle.coati_pace.proofs.Ranges.{acts_keep}
use Rattle.coati_pace.proofs.laws.acts_keep_ranges.Goals as goal

pub returns : goal.returns
returns c = acts_keep
