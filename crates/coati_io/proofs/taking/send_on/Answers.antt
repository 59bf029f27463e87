use Rattle.std.proofs.Common.{Bool, subst, sym}
use Rattle.coati_io.specs.Sending.{SendsOn}
use Rattle.coati_io.proofs.Sending.{sends_on}
use Rattle.coati_io.proofs.taking.send_on.Goals as goal

pub returns-else-failed : goal.returns-else-failed
returns-else-failed g c =
    subst (λ (failed : Bool). SendsOn g.K.Sink.taken g.K.Sink.faults g.K.Sink.spare failed c.args.sink.now c.args.bytes.now c.fails_to_take.new.sink c.fails_to_take.result)
    (sym c.if-failed.false) (sends_on _ _ _ c.fails_to_take.result _ _ _ c.fails_to_take.ensures)
