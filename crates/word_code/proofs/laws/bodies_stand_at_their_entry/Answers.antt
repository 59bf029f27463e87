use Rattle.word_code.proofs.Pieces.{stands_at_entry}
use Rattle.word_code.proofs.laws.bodies_stand_at_their_entry.Goals as goal

pub returns : goal.returns
returns c = stands_at_entry
