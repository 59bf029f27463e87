use Rattle.std.proofs.Common.{ap}
use Rattle.coati_io.proofs.Sending.{items_less, items_none, puts_same}
use Rattle.serial_log.specs.declared.mark.Mark.{Mark}
use Rattle.trace_out.specs.Marks.{mark_lines, mark_text}
use Rattle.trace_out.proofs.marks.put_marks.Goals as goal

pub loop-mark-preserved : goal.loop-mark-preserved
loop-mark-preserved g c =
    let program = c.args.names.now.checked.now in
    let readings = c.args.history.now.readings in
    items_less (λ (mark : Mark). mark_text program readings mark.at mark.kind) c.marks-mark-items.result.now c.loop-mark.mark-index _ c.loop-mark-test.true c.loop-mark.invariant c.put_mark.ensures

pub returns : goal.returns
returns g c =
    let program = c.args.names.now.checked.now in
    let readings = c.args.history.now.readings in
    puts_same
    (items_none (λ (mark : Mark). mark_text program readings mark.at mark.kind) c.marks-mark-items.result.now c.loop-mark.mark-index c.loop-mark-test.false c.loop-mark.invariant)
    (ap (mark_lines program readings) c.marks-mark-items.ensures)
