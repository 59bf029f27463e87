use Rattle.std.proofs.Common.{refl}
use Rattle.nv_memory.specs.State.{Writes, set_to}
use Rattle.nv_memory.specs.Words.{mark_seat}
use Rattle.coati_device.specs.Rows.IsRow.{joins}
use Rattle.coati_board.proofs.rows.join.Goals as goal

pub put-requires : goal.put-requires
put-requires c = (
  set_to mark_seat 1,
  record {
    seat = refl;
    is = c.mark_write.ensures c.args.device.now.image.n;
  },
)

pub returns : goal.returns
returns c program code inside =
    let marks : Writes c.args.device.now.image (set_to mark_seat 1) c.mark_write.result =
    record { seat = refl; is = c.mark_write.ensures c.args.device.now.image.n } in
    joins c.args.place c.put.new.image c.requires.ends c.requires.prepared inside
    (c.put.ensures (set_to mark_seat 1) marks).written (cc)
