use Rattle.std.proofs.Common.{sym}
use Rattle.task_check.proofs.TopParts.{least-assign}
use Rattle.task_check.proofs.rules.tops.named_in.Goals as goal

pub returns-in-Assign : goal.returns-in-Assign
returns-in-Assign c =
    let a = c.in-Assign in
    rw a.is (rw c.lesser.ensures (rw c.in_place.ensures (rw c.in_expression-in-Assign.ensures (sym (least-assign c.args.program.now a.place a.value)))))
