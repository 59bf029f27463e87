use Rattle.nv_memory.specs.State.{state}
use Rattle.nv_memory.specs.Logs.{length_in, task_log}
use Rattle.tx_buffer.specs.Next.{changes_below}
use Rattle.tx_buffer.proofs.Steps.{makes_after, makes_before}
use Rattle.commit_log.specs.Changes.{unit_ends, variable_changes}
use Rattle.commit_log.proofs.unit.newer_write.Goals as goal

pub returns-in-Some : goal.returns-in-Some
returns-in-Some c =
    let s = state c.args.image.now in
    makes_before c.args.image.now (changes_below (variable_changes s task_log) (length_in s task_log)) (unit_ends s) c.in-Some.write c.in-Some.ensures

pub returns-in-None : goal.returns-in-None
returns-in-None c =
    let s = state c.args.image.now in
    makes_after c.args.image.now (changes_below (variable_changes s task_log) (length_in s task_log)) (unit_ends s) c.end_write.result c.in-None.ensures c.end_write.ensures
