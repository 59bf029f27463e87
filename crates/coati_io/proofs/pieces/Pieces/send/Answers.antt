use Rattle.std.proofs.Common.{refl}
use Rattle.coati_io.proofs.Sending.{puts_sent}
use Rattle.coati_io.proofs.pieces.Pieces.send.Goals as goal

pub returns : goal.returns
returns g c = puts_sent _ _ _ c.args.self.now _ c.args.bytes.now refl c.requires c.requires c.send_on-self.ensures
