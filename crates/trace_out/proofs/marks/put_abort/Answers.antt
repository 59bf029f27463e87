use Rattle.coati_io.proofs.Sending.{puts_then}
use Rattle.trace_out.proofs.marks.put_abort.Goals as goal

pub returns : goal.returns
returns g c =
    puts_then (puts_then (puts_then (puts_then (puts_then (puts_then c.put.ensures c.put_unit.ensures) c.put_number.ensures) c.put_number-2.ensures) c.put-2.ensures) c.put_word.ensures) c.put-3.ensures
