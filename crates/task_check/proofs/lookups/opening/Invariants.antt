use Rattle.std.proofs.Common.{◌≡◌, ◌<◌, drop}
use Rattle.std.specs.Prelude.{flat_map, slice_get}
use Rattle.task_syntax.specs.Names.{first_values, word_count}
use Rattle.task_check.proofs.lookups.opening.Given as goal

abbrev pub invariant-loop-var : goal.invariant-loop-var
invariant-loop-var l = record {
  left : slice_get (flat_map first_values (drop l.var-index l.vars)) l.left ≡ slice_get (flat_map first_values l.vars) l.word;
  within : l.left < word_count (drop l.var-index l.vars);
}
