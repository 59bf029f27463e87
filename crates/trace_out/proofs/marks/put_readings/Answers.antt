use Rattle.coati_io.proofs.Sending.{items_less, items_none}
use Rattle.trace_out.specs.Shown.{reading_text}
use Rattle.trace_out.proofs.marks.put_readings.Goals as goal

pub loop-reading-preserved : goal.loop-reading-preserved
loop-reading-preserved g c =
    items_less (reading_text c.args.names.now.checked.now) c.args.readings.now c.loop-reading.reading-index _ c.loop-reading-test.true c.loop-reading.invariant c.put_reading.ensures

pub returns : goal.returns
returns g c =
    items_none (reading_text c.args.names.now.checked.now) c.args.readings.now c.loop-reading.reading-index c.loop-reading-test.false c.loop-reading.invariant
