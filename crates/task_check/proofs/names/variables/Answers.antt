use Rattle.std.proofs.Common.{ap, ◌∙◌, sym, arith, drop, map, ◌+◌}
use Rattle.task_check.specs.Mentions.{in_turn, var_part}
use Rattle.task_check.specs.Walk.{behind}
use Rattle.task_check.proofs.Walking.{behind-from, behind-past}
use Rattle.task_check.proofs.names.variables.Goals as goal

pub loop-var-preserved : goal.loop-var-preserved
loop-var-preserved c =
    let vars = c.args.vars.now in
    let i = c.loop-var.var-index in
    let step = behind-from var_part vars i c.var-item.result c.loop-var.walk (omega arith) c.var-item.is in
    ap (behind (in_turn (map var_part (drop (i + 1) vars)))) c.in_ok-variable.ensures ∙ sym step ∙ c.loop-var.invariant

pub returns : goal.returns
returns c = sym (behind-past var_part c.args.vars.now c.loop-var.var-index c.loop-var.walk (omega arith)) ∙ c.loop-var.invariant
