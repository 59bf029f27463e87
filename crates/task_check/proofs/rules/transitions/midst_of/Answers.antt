use Rattle.std.proofs.Common.{arith}
use Rattle.task_check.proofs.Midst.{midst_of-is}
use Rattle.task_check.proofs.rules.transitions.midst_of.Goals as goal

pub loop-unit-init : goal.loop-unit-init
loop-unit-init c = record { left = midst_of-is c.args.program.now c.args.name.now; few = omega arith }
