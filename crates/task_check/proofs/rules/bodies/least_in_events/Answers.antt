use Rattle.std.proofs.Common.{refl, rules}
use Rattle.task_check.specs.BodyRules.{broken_in}
use Rattle.task_check.proofs.BodyParts.{of_events}
use Rattle.task_check.proofs.WithinParts.{least-among}
use Rattle.task_check.proofs.rules.bodies.least_in_events.Goals as goal

pub returns : goal.returns
returns c = least-among _ c.args.events.now _ c.least_among.ensures _ _ refl (of_events (broken_in c.args.rule)) (λ event at answered. search rules)
