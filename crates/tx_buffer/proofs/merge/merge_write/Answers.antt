use Rattle.std.proofs.Common.{Some}
use Rattle.nv_memory.specs.State.{state}
use Rattle.nv_memory.specs.Logs.{length_in, task_log}
use Rattle.tx_buffer.specs.Merge.{IsMerged, flag_changes, merge_changes, pair_changes}
use Rattle.tx_buffer.specs.Next.{changes_below}
use Rattle.tx_buffer.proofs.Ends.{merged, merged_done}
use Rattle.tx_buffer.proofs.Makes.{none_where}
use Rattle.tx_buffer.proofs.Steps.{makes_after, makes_before}
use Rattle.tx_buffer.proofs.merge.merge_write.Goals as goal

pub returns-in-Some-clause-next : goal.returns-in-Some-clause-next
returns-in-Some-clause-next c =
    let s = state c.args.image.now in
    makes_before c.args.image.now (changes_below (pair_changes s) (length_in s task_log)) (changes_below (flag_changes s) s.n) c.in-Some.write c.in-Some.ensures

pub returns-in-Some-clause-none : goal.returns-in-Some-clause-none
returns-in-Some-clause-none c =
    let s = state c.args.image.now in
    none_where (IsMerged s) c.args.image.now (merge_changes s) (Some c.in-Some.write) (merged s) (merged_done s)
    (makes_before c.args.image.now (changes_below (pair_changes s) (length_in s task_log)) (changes_below (flag_changes s) s.n) c.in-Some.write c.in-Some.ensures)

pub returns-in-None-clause-next : goal.returns-in-None-clause-next
returns-in-None-clause-next c =
    let s = state c.args.image.now in
    makes_after c.args.image.now (changes_below (pair_changes s) (length_in s task_log)) (changes_below (flag_changes s) s.n) c.flag_write.result c.in-None.ensures c.flag_write.ensures

pub returns-in-None-clause-none : goal.returns-in-None-clause-none
returns-in-None-clause-none c =
    let s = state c.args.image.now in
    none_where (IsMerged s) c.args.image.now (merge_changes s) c.flag_write.result (merged s) (merged_done s)
    (makes_after c.args.image.now (changes_below (pair_changes s) (length_in s task_log)) (changes_below (flag_changes s) s.n) c.flag_write.result c.in-None.ensures c.flag_write.ensures)
