use Rattle.std.proofs.Common.{◌≡◌, ◌+◌, drop}
use Rattle.serial_log.specs.SerialRun.{stand_of}
use Rattle.task_syntax.specs.Names.{word_count}
use Rattle.coati_io.proofs.Sending.{PutsRest}
use Rattle.trace_out.specs.BoardText.{variable_texts}
use Rattle.trace_out.proofs.printer.put_variables.Given as goal

abbrev pub invariant-loop-var : goal.invariant-loop-var
invariant-loop-var g l =
    let vars = l.board.program.vars in
    let store = (stand_of l.board.program l.board.device.history).store in
    record {
      fits : l.first + word_count (drop l.var-index vars) ≡ word_count vars;
      told : PutsRest g.K.Sink.taken g.K.Sink.faults g.K.Sink.spare l.initial.out l.out (variable_texts l.first (drop l.var-index vars) store) (variable_texts 0 vars store);
    }
