use Rattle.std.proofs.Common.{arith, rules}
use Rattle.task_check.specs.Measures.{too_long}
use Rattle.task_check.proofs.BodyParts.{of_units}
use Rattle.task_check.proofs.SizeParts.{sizes_join}
use Rattle.task_check.proofs.Turns.{turn}
use Rattle.task_check.proofs.rules.measures.too_long_units.Goals as goal

pub loop-unit-preserved : goal.loop-unit-preserved
loop-unit-preserved c =
    turn _ _ sizes_join _ _ (of_units (too_long c.args.program.now)) c.args.units.now c.loop-unit.unit-index c.unit-item.result c.loop-unit.found c.too_long_tasks.result c.nearer-found.result
    (omega arith) c.unit-item.is (search rules) c.nearer-found.ensures c.loop-unit.invariant
