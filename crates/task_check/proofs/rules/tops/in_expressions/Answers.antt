use Rattle.std.proofs.Common.{rules}
use Rattle.task_check.specs.Tops.{in_expression}
use Rattle.task_check.proofs.rules.tops.in_expressions.Goals as goal

pub returns : goal.returns
returns c = c.least_among.ensures (in_expression c.args.program.now) (λ value at answered. search rules)
