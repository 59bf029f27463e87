use Rattle.coati_pace.proofs.Runs.{acts_keep_pace}
use Rattle.coati_pace.proofs.laws.devices_keep_pace.Goals as goal

pub returns : goal.returns
returns c = acts_keep_pace
