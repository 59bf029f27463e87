use Rattle.std.proofs.Common.{sym}
use Rattle.task_check.proofs.TopParts.{least-two}
use Rattle.task_check.proofs.rules.tops.+expression.Goals as goal

pub in_expression-returns-in-Two : goal.in_expression-returns-in-Two
in_expression-returns-in-Two t c =
    rw c.in-Two.is (rw c.lesser.ensures (rw c.in_expression-left.ensures (rw c.in_expression-in-Two.ensures (rw c.get-in-Two.ensures (rw c.get-in-Two-2.ensures (sym (least-two c.args.program.now c.in-Two.field-0 c.in-Two.left c.in-Two.right)))))))
