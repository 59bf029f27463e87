use Rattle.std.proofs.Common.{◌∙◌, sym, arith}
use Rattle.task_check.proofs.Walking.{behind-expressions_from, behind-expressions_past}
use Rattle.task_check.proofs.walk.Walk.expressions.Goals as goal

pub loop-value-preserved : goal.loop-value-preserved
loop-value-preserved c =
    let step = behind-expressions_from c.args.values.now c.loop-value.value-index c.value-item.result c.loop-value.self (omega arith) c.value-item.is in
    cc

pub returns : goal.returns
returns c = sym (behind-expressions_past c.args.values.now c.loop-value.value-index c.loop-value.self (omega arith)) ∙ c.loop-value.invariant
