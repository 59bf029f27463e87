use Rattle.std.proofs.Common.{ap, ◌∙◌, sym, arith, drop, ◌+◌}
use Rattle.task_check.specs.Mentions.{statement_part, statements_part}
use Rattle.task_check.specs.Walk.{behind}
use Rattle.task_check.proofs.Walking.{behind-from, behind-past}
use Rattle.task_check.proofs.walk.Walk.+statement.Goals as goal

pub statements-loop-statement-preserved : goal.statements-loop-statement-preserved
statements-loop-statement-preserved t c =
    let block = c.args.block.now in
    let i = c.loop-statement.statement-index in
    let step = behind-from statement_part block i c.statement-item.result c.loop-statement.self (omega arith) c.statement-item.is in
    ap (behind (statements_part (drop (i + 1) block))) c.in_ok-statement.ensures ∙ sym step ∙ c.loop-statement.invariant

pub statements-returns : goal.statements-returns
statements-returns t c = sym (behind-past statement_part c.args.block.now c.loop-statement.statement-index c.loop-statement.self (omega arith)) ∙ c.loop-statement.invariant
