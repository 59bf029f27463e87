use Rattle.std.proofs.Common.{ap, ◌∙◌, sym, arith, drop, map, ◌+◌}
use Rattle.task_check.specs.declared.meaning.Meaning.TheVariants as meaning
use Rattle.task_check.specs.Mentions.{in_turn, declares}
use Rattle.task_check.specs.Walk.{behind}
use Rattle.task_check.proofs.Walking.{behind-from, behind-past}
use Rattle.task_check.proofs.names.parameters.Goals as goal

pub loop-name-preserved : goal.loop-name-preserved
loop-name-preserved c =
    let params = c.args.params.now in
    let i = c.loop-name.name-index in
    let step = behind-from (declares meaning.Local) params i c.name-item.result c.loop-name.walk (omega arith) c.name-item.is in
    ap (behind (in_turn (map (declares meaning.Local) (drop (i + 1) params)))) c.in_ok-declare.ensures ∙ sym step ∙ c.loop-name.invariant

pub returns : goal.returns
returns c = sym (behind-past (declares meaning.Local) c.args.params.now c.loop-name.name-index c.loop-name.walk (omega arith)) ∙ c.loop-name.invariant
