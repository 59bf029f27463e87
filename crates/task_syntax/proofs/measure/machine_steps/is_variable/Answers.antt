use Rattle.std.proofs.Common.{arith}
use Rattle.std.proofs.lemmas.Grind.{common_steps}
use Rattle.task_syntax.proofs.Named.{is_some-words_from}
use Rattle.task_syntax.proofs.measure.machine_steps.is_variable.Goals as goal

pub returns-then-eq : goal.returns-then-eq
returns-then-eq c = rw (is_some-words_from 0 c.args.program.now.vars c.args.name.now) (grind (arith, common_steps))

pub returns : goal.returns
returns c = rw (is_some-words_from 0 c.args.program.now.vars c.args.name.now) (grind (arith, common_steps))
