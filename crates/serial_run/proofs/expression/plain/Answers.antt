use Rattle.std.proofs.Common.{arith}
use Rattle.serial_run.proofs.expression.plain.Goals as goal

pub returns-in-Some-clause-within : goal.returns-in-Some-clause-within
returns-in-Some-clause-within c = omega (arith, c.in-Some.ensures.some, c.in-Some.ensures.within)
