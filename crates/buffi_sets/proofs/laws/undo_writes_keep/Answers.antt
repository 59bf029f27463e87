use Rattle.buffi_sets.proofs.Undoing.{undo_keeps}
use Rattle.buffi_sets.proofs.laws.undo_writes_keep.Goals as goal

pub returns : goal.returns
returns c = undo_keeps
