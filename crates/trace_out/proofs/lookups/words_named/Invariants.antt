use Rattle.std.proofs.Common.{◌≡◌, ◌+◌, drop}
use Rattle.task_syntax.specs.Names.{word_count, words_from}
use Rattle.trace_out.proofs.lookups.words_named.Given as goal

abbrev pub invariant-loop-var : goal.invariant-loop-var
invariant-loop-var l = record {
  left : words_from l.first (drop l.var-index l.vars) l.name ≡ words_from 0 l.vars l.name;
  fits : l.first + word_count (drop l.var-index l.vars) ≡ word_count l.vars;
}
