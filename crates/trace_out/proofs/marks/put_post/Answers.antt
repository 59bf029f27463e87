use Rattle.coati_io.proofs.Sending.{puts_then}
use Rattle.trace_out.proofs.marks.put_post.Goals as goal

pub returns : goal.returns
returns g c =
    puts_then (puts_then (puts_then (puts_then c.put_raised.ensures c.put_number.ensures) c.put_number-2.ensures) c.put_answer.ensures) c.put.ensures
