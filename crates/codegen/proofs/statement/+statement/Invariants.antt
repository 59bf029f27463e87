use Rattle.std.proofs.Common.{◌≡◌, ◌+◌, ◌++◌, drop}
use Rattle.task_syntax.specs.CodeWords.{statements_words}
use Rattle.task_syntax.specs.LocalCount.{declared_counts}
use Rattle.codegen.specs.Templates.{statements_code}
use Rattle.codegen.proofs.statement.+statement.Given as goal

abbrev pub invariant-put_statements-loop-statement : goal.invariant-put_statements-loop-statement
invariant-put_statements-loop-statement l = record {
  code : l.out.instrs.items ++ (statements_code l.checked (drop l.statement-index l.block) l.scope).code l.out.end
      ≡ l.initial.out.instrs.items ++ (statements_code l.checked l.block l.initial.scope).code l.initial.out.end;
  end : l.out.end + statements_words (drop l.statement-index l.block) ≡ l.initial.out.end + statements_words l.block;
  scope : (statements_code l.checked (drop l.statement-index l.block) l.scope).behind ≡ (statements_code l.checked l.block l.initial.scope).behind;
  slots : l.scope.next + declared_counts (drop l.statement-index l.block) ≡ l.initial.scope.next + declared_counts l.block;
}
