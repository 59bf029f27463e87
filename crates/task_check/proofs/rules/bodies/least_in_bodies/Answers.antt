use Rattle.std.proofs.Common.{sym}
use Rattle.task_check.specs.BodyRules.{broken_in}
use Rattle.task_check.proofs.BodyParts.{of_bodies}
use Rattle.task_check.proofs.LeastParts.{least_joins}
use Rattle.task_check.proofs.rules.bodies.least_in_bodies.Goals as goal

pub returns : goal.returns
returns c =
    rw c.lesser.ensures (rw c.least_in_units-tasks.ensures (rw c.least_in_events.ensures (rw c.as_slice.ensures (rw c.as_slice-2.ensures (sym (of_bodies (broken_in c.args.rule) _ _ least_joins c.args.program.now))))))
