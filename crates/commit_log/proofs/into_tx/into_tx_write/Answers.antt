use Rattle.nv_memory.specs.State.{state}
use Rattle.tx_buffer.specs.Merge.{merge_changes}
use Rattle.tx_buffer.proofs.Steps.{makes_after, makes_before}
use Rattle.commit_log.specs.Changes.{opening_changes}
use Rattle.commit_log.proofs.into_tx.into_tx_write.Goals as goal

pub returns-in-Some : goal.returns-in-Some
returns-in-Some c =
    let s = state c.args.image.now in
    makes_before c.args.image.now (merge_changes s) (opening_changes s) c.in-Some.write c.in-Some.ensures.next

pub returns-in-None : goal.returns-in-None
returns-in-None c =
    let s = state c.args.image.now in
    makes_after c.args.image.now (merge_changes s) (opening_changes s) c.opening_write.result c.in-None.ensures.next c.opening_write.ensures
