use Rattle.std.proofs.Common.{ap, sym}
use Rattle.coati_io.proofs.Sending.{puts_same, puts_then}
use Rattle.trace_out.specs.Shown.{unit_text}
use Rattle.trace_out.proofs.marks.put_unit.Goals as goal

pub returns-in-Transaction : goal.returns-in-Transaction
returns-in-Transaction g c =
    puts_same (puts_then c.put-in-Transaction.ensures c.put_transaction.ensures)
    (ap (unit_text c.args.names.now.checked.now) (sym c.in-Transaction.is))
