use Rattle.std.proofs.Common.{◌≡◌, drop}
use Rattle.task_check.specs.Mentions.{uses, expressions_mentions}
use Rattle.task_check.specs.Walk.{behind}
use Rattle.task_check.proofs.walk.Walk.expressions.Given as goal

abbrev pub invariant-loop-value : goal.invariant-loop-value
invariant-loop-value l = behind (uses (expressions_mentions (drop l.value-index l.values))) l.self ≡ behind (uses (expressions_mentions l.values)) l.initial.self
