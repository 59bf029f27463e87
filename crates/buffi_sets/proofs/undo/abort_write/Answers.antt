use Rattle.std.proofs.Common.{◌≡◌, ◌==◌, rules, true}
use Rattle.nv_memory.specs.State.{state}
use Rattle.nv_memory.specs.Words.{doomed}
use Rattle.tx_buffer.specs.Clear.{clear_changes}
use Rattle.tx_buffer.proofs.Steps.{makes_after, makes_before}
use Rattle.buffi_sets.specs.Undo.{restart_changes}
use Rattle.buffi_sets.proofs.undo.abort_write.Goals as goal

pub returns-in-Some-clause-next : goal.returns-in-Some-clause-next
returns-in-Some-clause-next c =
    let m = c.args.image.now in
    let s = state m in
    let is : (doomed s == 1) ≡ true = search rules in
    rw is (makes_before m (clear_changes s) (restart_changes s) c.in-Some.write c.in-Some.ensures.next)

pub returns-in-None-clause-next : goal.returns-in-None-clause-next
returns-in-None-clause-next c =
    let m = c.args.image.now in
    let s = state m in
    let is : (doomed s == 1) ≡ true = search rules in
    rw is (makes_after m (clear_changes s) (restart_changes s) c.restart_write.result c.in-None.ensures.next c.restart_write.ensures.next)
