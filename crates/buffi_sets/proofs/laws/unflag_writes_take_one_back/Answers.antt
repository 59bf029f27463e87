use Rattle.buffi_sets.proofs.Unflagging.{unflags}
use Rattle.buffi_sets.proofs.laws.unflag_writes_take_one_back.Goals as goal

pub returns : goal.returns
returns c = unflags
