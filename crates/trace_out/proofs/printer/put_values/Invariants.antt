use Rattle.std.proofs.Common.{◌+◌, ◌-◌}
use Rattle.serial_log.specs.SerialRun.{stand_of}
use Rattle.coati_io.proofs.Sending.{PutsRest}
use Rattle.trace_out.specs.BoardText.{value_texts}
use Rattle.trace_out.proofs.printer.put_values.Given as goal

abbrev pub invariant-loop-index : goal.invariant-loop-index
invariant-loop-index g l =
    let store = (stand_of l.board.program l.board.device.history).store in
    PutsRest g.K.Sink.taken g.K.Sink.faults g.K.Sink.spare l.initial.out l.out
    (value_texts (l.first + l.index) (l.count - l.index) store) (value_texts l.first l.count store)
