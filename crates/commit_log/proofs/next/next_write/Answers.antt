use Rattle.std.proofs.Common.{◌≡◌}
use Rattle.nv_memory.specs.State.{state}
use Rattle.nv_memory.specs.Words.{mark}
use Rattle.tx_buffer.proofs.Makes.{none_where}
use Rattle.commit_log.specs.Changes.{commit_changes, event_changes, into_tx_changes, unit_changes}
use Rattle.commit_log.proofs.Nexts.{clear_is_none, commit_next, event_is, into_tx_is, none_is_clear, unit_is}
use Rattle.commit_log.proofs.next.next_write.Goals as goal

pub returns-in-IntoTx-clause-none : goal.returns-in-IntoTx-clause-none
returns-in-IntoTx-clause-none c =
    let m = c.args.image.now in
    none_where (mark (state m) ≡ 0) m (commit_changes (state m)) c.into_tx_write.result (none_is_clear (state m) c.requires) (clear_is_none (state m))
    (commit_next m (into_tx_changes (state m)) c.into_tx_write.result (into_tx_is (state m) c.in-IntoTx.ensures) c.into_tx_write.ensures)

pub returns-in-Unit-clause-none : goal.returns-in-Unit-clause-none
returns-in-Unit-clause-none c =
    let m = c.args.image.now in
    none_where (mark (state m) ≡ 0) m (commit_changes (state m)) c.unit_write.result (none_is_clear (state m) c.requires) (clear_is_none (state m))
    (commit_next m (unit_changes (state m)) c.unit_write.result (unit_is (state m) c.in-Unit.ensures) c.unit_write.ensures)

pub returns-in-Event-clause-none : goal.returns-in-Event-clause-none
returns-in-Event-clause-none c =
    let m = c.args.image.now in
    none_where (mark (state m) ≡ 0) m (commit_changes (state m)) c.event_write.result (none_is_clear (state m) c.requires) (clear_is_none (state m))
    (commit_next m (event_changes (state m)) c.event_write.result (event_is (state m) c.in-Event.ensures) c.event_write.ensures)
