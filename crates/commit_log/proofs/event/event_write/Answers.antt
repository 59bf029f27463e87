use Rattle.nv_memory.specs.State.{state}
use Rattle.tx_buffer.proofs.Steps.{makes_after, makes_before}
use Rattle.commit_log.specs.Changes.{freeing_changes, taken_changes}
use Rattle.commit_log.proofs.event.event_write.Goals as goal

pub returns-in-Some : goal.returns-in-Some
returns-in-Some c =
    let s = state c.args.image.now in
    makes_before c.args.image.now (taken_changes s) (freeing_changes s) c.in-Some.write c.in-Some.ensures

pub returns-in-None : goal.returns-in-None
returns-in-None c =
    let s = state c.args.image.now in
    makes_after c.args.image.now (taken_changes s) (freeing_changes s) c.freeing_write.result c.in-None.ensures c.freeing_write.ensures
