use Rattle.std.proofs.Common.{◌≡◌, drop}
use Rattle.task_syntax.specs.Names.{task_from}
use Rattle.task_check.proofs.rules.transitions.position_in.Given as goal

abbrev pub invariant-loop-index : goal.invariant-loop-index
invariant-loop-index l = task_from l.index (drop l.index l.tasks) l.name ≡ task_from 0 l.tasks l.name
