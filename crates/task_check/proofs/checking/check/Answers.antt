use Rattle.std.specs.Prelude.{Some, None}
use Rattle.task_check.specs.Accepted.{IsFound}
use Rattle.task_check.proofs.Refusals.{one-refusal, refused-not_accepted}
use Rattle.task_check.proofs.checking.check.Goals as goal

pub returns-in-Ok-Some-clause-accepts : goal.returns-in-Ok-Some-clause-accepts
returns-in-Ok-Some-clause-accepts c accepted =
    let broken : IsFound c.args.program 1 17 (Some (c.in-Ok-Some.rule, c.in-Ok-Some.at)) = rw c.in-Ok-Some.field-0-is at c.in-Ok-Some.ensures in
    absurd (refused-not_accepted c.args.program c.in-Ok-Some.rule c.in-Ok-Some.at broken accepted)

pub returns-in-Ok-Some-clause-refuses : goal.returns-in-Ok-Some-clause-refuses
returns-in-Ok-Some-clause-refuses c rule at one =
    let broken : IsFound c.args.program 1 17 (Some (c.in-Ok-Some.rule, c.in-Ok-Some.at)) = rw c.in-Ok-Some.field-0-is at c.in-Ok-Some.ensures in
    one-refusal c.args.program rule c.in-Ok-Some.rule at c.in-Ok-Some.at one broken

pub returns-in-Ok-None-clause-refuses : goal.returns-in-Ok-None-clause-refuses
returns-in-Ok-None-clause-refuses c rule at broken =
    let kept : IsFound c.args.program 1 17 None = rw c.in-Ok-None.field-0-is at c.in-Ok-None.ensures in
    absurd (refused-not_accepted c.args.program rule at broken kept)
