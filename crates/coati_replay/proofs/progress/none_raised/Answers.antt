use Rattle.coati_replay.proofs.Counts.{none-anywhere}
use Rattle.coati_replay.proofs.progress.none_raised.Goals as goal

pub returns-clause-none : goal.returns-clause-none
returns-clause-none c = none-anywhere 256
