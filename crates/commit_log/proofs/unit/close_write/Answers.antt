use Rattle.std.proofs.Common.{None, Some}
use Rattle.nv_memory.specs.State.{state}
use Rattle.tx_buffer.specs.Clear.{unflag_changes}
use Rattle.tx_buffer.specs.Next.{changes_below}
use Rattle.tx_buffer.proofs.Steps.{makes_after, makes_before}
use Rattle.commit_log.specs.Changes.{closing_changes}
use Rattle.commit_log.proofs.Nexts.{unflags_next}
use Rattle.commit_log.proofs.unit.close_write.Goals as goal

pub returns-in-Some : goal.returns-in-Some
returns-in-Some c =
    let m = c.args.image.now in
    makes_before m (changes_below unflag_changes m.n) (closing_changes (state m)) c.in-Some.write
    (unflags_next m (Some c.in-Some.write) c.requires.empty c.in-Some.ensures.next)

pub returns-in-None : goal.returns-in-None
returns-in-None c =
    let m = c.args.image.now in
    makes_after m (changes_below unflag_changes m.n) (closing_changes (state m)) c.closing_write.result
    (unflags_next m None c.requires.empty c.in-None.ensures.next) c.closing_write.ensures
