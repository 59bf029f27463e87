use Rattle.std.proofs.Common.{◌≡◌, ◌+◌, ◌≤◌, drop}
use Rattle.task_syntax.specs.Saturated.{saturated}
use Rattle.task_syntax.specs.CodeWords.{expressions_words}
use Rattle.task_syntax.proofs.measure.code_size.expressions_words.Given as goal

abbrev pub invariant-loop-value : goal.invariant-loop-value
invariant-loop-value l = record {
  left : saturated (l.sum + expressions_words (drop l.value-index l.values)) ≡ saturated (expressions_words l.values);
  fits : l.sum ≤ 4294967295;
}
