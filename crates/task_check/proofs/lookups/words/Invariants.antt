use Rattle.std.proofs.Common.{◌≡◌, ◌+◌, drop}
use Rattle.task_syntax.specs.Names.{word_count}
use Rattle.task_check.proofs.lookups.words.Given as goal

abbrev pub invariant-loop-var : goal.invariant-loop-var
invariant-loop-var l = l.words + word_count (drop l.var-index l.vars) ≡ word_count l.vars
