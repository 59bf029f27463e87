use Rattle.nv_memory.specs.State.{state}
use Rattle.nv_memory.specs.Logs.{length_in, tx_log}
use Rattle.tx_buffer.specs.Next.{changes_below}
use Rattle.tx_buffer.proofs.Steps.{makes_after, makes_before}
use Rattle.commit_log.specs.Changes.{newer_changes, older_changes}
use Rattle.commit_log.proofs.unit.unit_write.Goals as goal

pub returns-in-Some : goal.returns-in-Some
returns-in-Some c =
    let s = state c.args.image.now in
    makes_before c.args.image.now (changes_below (older_changes s) (length_in s tx_log)) (newer_changes s) c.in-Some.write c.in-Some.ensures

pub returns-in-None : goal.returns-in-None
returns-in-None c =
    let s = state c.args.image.now in
    makes_after c.args.image.now (changes_below (older_changes s) (length_in s tx_log)) (newer_changes s) c.newer_write.result c.in-None.ensures c.newer_write.ensures
