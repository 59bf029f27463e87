use Rattle.std.proofs.Common.{refl}
use Rattle.coati_board.proofs.handler.fill.Goals as goal

pub returns : goal.returns
returns c = record {
  image = c.put.new.image;
  wrote = (c.put.ensures _ c.fill_write-write.ensures).written;
  same = refl;
}
