use Rattle.std.proofs.Common.{◌∷◌, []}
use Rattle.nv_memory.specs.State.{set_to, state}
use Rattle.nv_memory.specs.Logs.{task_log, tx_log}
use Rattle.tx_buffer.proofs.Steps.{makes_before}
use Rattle.commit_log.specs.Changes.{unit_closes}
use Rattle.commit_log.proofs.Nexts.{ends_next, tx_is_empty}
use Rattle.commit_log.proofs.unit.end_write.Goals as goal

pub returns-in-Some : goal.returns-in-Some
returns-in-Some c =
    makes_before c.args.image.now (set_to tx_log.length 0 ∷ set_to task_log.length 0 ∷ []) (unit_closes (state c.args.image.now)) c.in-Some.write c.in-Some.ensures

pub close_write-requires-clause-empty : goal.close_write-requires-clause-empty
close_write-requires-clause-empty c = tx_is_empty (state c.args.image.now) c.in-None.ensures

pub returns-in-None : goal.returns-in-None
returns-in-None c = ends_next c.args.image.now c.close_write.result c.in-None.ensures c.close_write.ensures
