use Rattle.std.proofs.Common.{drop}
use Rattle.std.specs.Prelude.{flat_map}
use Rattle.coati_io.proofs.Sending.{PutsRest}
use Rattle.trace_out.specs.Shown.{reading_text}
use Rattle.trace_out.proofs.marks.put_readings.Given as goal

abbrev pub invariant-loop-reading : goal.invariant-loop-reading
invariant-loop-reading g l =
    PutsRest g.K.Sink.taken g.K.Sink.faults g.K.Sink.spare l.initial.out l.out
    (flat_map (reading_text l.names.checked.now) (drop l.reading-index l.readings))
    (flat_map (reading_text l.names.checked.now) l.readings)
