use Rattle.std.proofs.Common.{◌≡◌, ◌+◌, ◌++◌, drop}
use Rattle.task_syntax.specs.CodeWords.{expressions_words}
use Rattle.codegen.specs.Templates.{expressions_code}
use Rattle.codegen.proofs.expression.put_expressions.Given as goal

abbrev pub invariant-loop-value : goal.invariant-loop-value
invariant-loop-value l = record {
  code : l.out.instrs.items ++ expressions_code l.checked (drop l.value-index l.values) l.scope.locals
      ≡ l.initial.out.instrs.items ++ expressions_code l.checked l.values l.scope.locals;
  end : l.out.end + expressions_words (drop l.value-index l.values) ≡ l.initial.out.end + expressions_words l.values;
}
