use Rattle.coati_pace.proofs.Paces.{paces_go_on}
use Rattle.coati_pace.proofs.laws.histories_keep_pace.Goals as goal

pub returns-clause-goes_on : goal.returns-clause-goes_on
returns-clause-goes_on c = paces_go_on
