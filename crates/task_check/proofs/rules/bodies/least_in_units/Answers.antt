use Rattle.std.proofs.Common.{refl, rules}
use Rattle.task_check.specs.BodyRules.{broken_in}
use Rattle.task_check.proofs.BodyParts.{of_units}
use Rattle.task_check.proofs.WithinParts.{least-among}
use Rattle.task_check.proofs.rules.bodies.least_in_units.Goals as goal

pub returns : goal.returns
returns c = least-among _ c.args.units.now _ c.least_among.ensures _ _ refl (of_units (broken_in c.args.rule)) (λ unit at answered. search rules)
