use Rattle.std.proofs.Common.{ap, sym, append_assoc}
use Rattle.std.specs.Prelude.{codes, decimal}
use Rattle.coati_io.proofs.Sending.{puts_same, puts_then}
use Rattle.trace_out.specs.Lines.{word_and_number}
use Rattle.trace_out.specs.Names.{event_name}
use Rattle.trace_out.proofs.marks.put_raised.Goals as goal

pub returns : goal.returns
returns g c =
    let posted = c.args.posted.now in
    let name = event_name c.args.names.now.checked.now posted.event in
    let device = puts_same c.put_number.ensures (ap (word_and_number (codes "post")) c.from.ensures) in
    let argument = puts_same c.put_number-2.ensures (ap (word_and_number (codes "")) c.from-2.ensures) in
    puts_then (puts_then (puts_then (puts_then device c.put.ensures) c.put_decimal.ensures) c.put-2.ensures)
    (puts_same (puts_then c.put_event.ensures argument) (sym (append_assoc name (codes " ") (decimal posted.argument))))
