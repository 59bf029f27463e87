use Rattle.std.proofs.Common.{◌≡◌, drop}
use Rattle.task_check.specs.Mentions.{statements_part}
use Rattle.task_check.specs.Walk.{behind}
use Rattle.task_check.proofs.walk.Walk.+statement.Given as goal

abbrev pub invariant-statements-loop-statement : goal.invariant-statements-loop-statement
invariant-statements-loop-statement l = behind (statements_part (drop l.statement-index l.block)) l.self ≡ behind (statements_part l.block) l.initial.self
