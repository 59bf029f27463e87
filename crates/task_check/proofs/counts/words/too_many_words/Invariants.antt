use Rattle.std.proofs.Common.{drop}
use Rattle.task_check.proofs.WordCounts.{FoundSoFar}
use Rattle.task_check.proofs.counts.words.too_many_words.Given as goal

abbrev pub invariant-loop-var : goal.invariant-loop-var
invariant-loop-var l = FoundSoFar l.program.vars (drop l.var-index l.program.vars) l.words l.found
