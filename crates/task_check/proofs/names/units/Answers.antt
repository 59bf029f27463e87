use Rattle.std.proofs.Common.{ap, ◌∙◌, sym, arith, drop, map, ◌+◌}
use Rattle.task_check.specs.Mentions.{in_turn, unit_part}
use Rattle.task_check.specs.Walk.{behind}
use Rattle.task_check.proofs.Walking.{behind-from, behind-past}
use Rattle.task_check.proofs.names.units.Goals as goal

pub loop-unit-preserved : goal.loop-unit-preserved
loop-unit-preserved c =
    let units = c.args.units.now in
    let i = c.loop-unit.unit-index in
    let step = behind-from unit_part units i c.unit-item.result c.loop-unit.walk (omega arith) c.unit-item.is in
    ap (behind (in_turn (map unit_part (drop (i + 1) units)))) c.in_ok-declare_unit.ensures ∙ sym step ∙ c.loop-unit.invariant

pub returns : goal.returns
returns c = sym (behind-past unit_part c.args.units.now c.loop-unit.unit-index c.loop-unit.walk (omega arith)) ∙ c.loop-unit.invariant
