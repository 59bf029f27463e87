use Rattle.std.proofs.Common.{◌≡◌, ◌+◌, ◌≤◌, drop}
use Rattle.task_syntax.specs.Saturated.{saturated}
use Rattle.task_syntax.specs.CodeWords.{statements_words}
use Rattle.task_syntax.proofs.measure.code_size.+words.Given as goal

abbrev pub invariant-statements_words-loop-statement : goal.invariant-statements_words-loop-statement
invariant-statements_words-loop-statement l = record {
  left : saturated (l.sum + statements_words (drop l.statement-index l.body)) ≡ saturated (statements_words l.body);
  fits : l.sum ≤ 4294967295;
}
