use Rattle.std.proofs.Common.{arith}
use Rattle.std.proofs.lemmas.Grind.{common_steps}
use Rattle.coati_io.proofs.memory_sink.MemSinkSink.write.Goals as goal
use Rattle.coati_io.proofs.memory_sink.MemSinkSink.write.Goals.{then-contains-via-then-contains, then-contains-via-else-contains+then-self-n}

pub returns-then-contains-clause-failed : goal.returns-then-contains-clause-failed
returns-then-contains-clause-failed c =
    elim c.then-contains.branch [ then-contains-via-then-contains w ↦ grind (arith, common_steps) | then-contains-via-else-contains+then-self-n w ↦ grind (arith, common_steps) ]
