use Rattle.std.proofs.Common.{drop}
use Rattle.coati_io.proofs.Sending.{PutsRest}
use Rattle.trace_out.specs.Marks.{mark_lines}
use Rattle.trace_out.proofs.marks.put_marks.Given as goal

abbrev pub invariant-loop-mark : goal.invariant-loop-mark
invariant-loop-mark g l =
    PutsRest g.K.Sink.taken g.K.Sink.faults g.K.Sink.spare l.initial.out l.out
    (mark_lines l.names.checked.now l.history.readings (drop l.mark-index l.mark-items))
    (mark_lines l.names.checked.now l.history.readings l.mark-items)
