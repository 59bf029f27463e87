use Rattle.std.proofs.Common.{refl}
use Rattle.coati_io.proofs.Sending.{puts_nothing}
use Rattle.coati_io.proofs.pieces.Pieces.send_held.Goals as goal

pub returns-clause-puts : goal.returns-clause-puts
returns-clause-puts g c = puts_nothing _ _ _ c.args.self.now _ refl c.clear.ensures (rw c.bytes.ensures at c.send_on-self.ensures)
