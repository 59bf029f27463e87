use Rattle.std.proofs.Common.{◌≡◌, ◌+◌, ◌∙◌, arith}
use Rattle.coati_io.proofs.Sending.{rest_less, rest_none}
use Rattle.serial_log.specs.SerialRun.{stand_of}
use Rattle.trace_out.proofs.Values.{no_value_more, one_value_more}
use Rattle.trace_out.proofs.printer.put_values.Goals as goal

pub loop-index-preserved : goal.loop-index-preserved
loop-index-preserved g c =
    let store = (stand_of c.args.board.now.program c.args.board.now.device.history).store in
    let index = c.loop-index.index in
    let value : c.from.result ≡ store (c.args.first + index) = c.from.ensures ∙ c.store_word.ensures.store in
    rest_less c.loop-index.invariant (one_value_more c.args.first c.args.count index c.from.result store (omega arith) value) c.put_number.ensures

pub returns : goal.returns
returns g c =
    let store = (stand_of c.args.board.now.program c.args.board.now.device.history).store in
    rest_none c.loop-index.invariant (no_value_more c.args.first c.args.count c.loop-index.index store c.loop-index-test.false)
