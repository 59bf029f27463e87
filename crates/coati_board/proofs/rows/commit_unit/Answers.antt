use Rattle.std.proofs.Common.{refl}
use Rattle.nv_memory.specs.State.{Writes, set_to}
use Rattle.nv_memory.specs.Words.{mark_seat}
use Rattle.coati_device.specs.Rows.IsRow.{commits}
use Rattle.coati_board.proofs.rows.commit_unit.Goals as goal

pub put-requires : goal.put-requires
put-requires c = (
  set_to mark_seat 2,
  record {
    seat = refl;
    is = c.mark_write.ensures c.args.device.now.image.n;
  },
)

pub returns : goal.returns
returns c program code whole unit =
    let marks : Writes c.args.device.now.image (set_to mark_seat 2) c.mark_write.result =
    record { seat = refl; is = c.mark_write.ensures c.args.device.now.image.n } in
    commits c.args.place c.put.new.image c.requires.ends c.requires.prepared whole
    (c.put.ensures (set_to mark_seat 2) marks).written (cc)
