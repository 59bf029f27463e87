use Rattle.std.proofs.Common.{rules}
use Rattle.task_check.specs.Counts.{bad_loops_step}
use Rattle.task_check.proofs.CountParts.{of_loops}
use Rattle.task_check.proofs.WithinParts.{least-within}
use Rattle.task_check.proofs.rules.turns.bad_turns.Goals as goal

pub returns : goal.returns
returns c = least-within bad_loops_step of_loops _ c.args.body.now.statements.now _ c.least_within.ensures (λ s at answered. search rules)
