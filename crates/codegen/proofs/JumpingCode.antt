-- The code of choices and loops, with the words to which it jumps.
use Rattle.std.proofs.Common.{◌≡◌, ℕ, ◌+◌, List, ◌∷◌, ◌++◌, refl, sym, ap, ◌∙◌, append_assoc}
use Rattle.std.specs.Prelude.{Option, Some, None}
use Rattle.task_syntax.specs.declared.name.Name.{Name}
use Rattle.task_syntax.specs.declared.program.Program.{Program}
use Rattle.task_syntax.specs.declared.expression.Expr.{Expr}
use Rattle.task_syntax.specs.declared.statement.Stmt.{Stmt}
use Rattle.task_syntax.specs.declared.statement.Stmt as S
use Rattle.task_syntax.specs.declared.statement.Stmt.TheVariants.{If, Repeat, rolls-If, rolls-Repeat}
use Rattle.task_syntax.specs.CodeWords.{expression_words, statement_words, statement_words_step, statements_words}
use Rattle.word_code.specs.declared.instruction.Instr.{Instr}
use Rattle.word_code.specs.declared.instruction.Instr.TheVariants.{Push, SetL, Jump, JumpZ}
use Rattle.codegen.specs.Code.{size, when_code, either_code, head_code, turn_code}
use Rattle.codegen.specs.Scope.{Scope, declare, behind_block}
use Rattle.codegen.specs.Templates.{expression_code, statement_code, statement_code_step, statements_code, Template}
use Rattle.codegen.proofs.CodeLayers.{statement_code-layer}
use Rattle.codegen.proofs.CodeSizes.{size-expression_code, size-statements_code}

-- how many words they have
words_at : (s : Stmt) (x : S.Stmt-F Stmt) → S.roll-Stmt x ≡ s → statement_words s ≡ statement_words_step (S.map-Stmt Stmt ℕ statement_words x)
words_at s x is = ap statement_words (sym is) ∙ S.fold-roll-Stmt ℕ statement_words_step x

pub words-when : (condition : Expr) (block : List Stmt) → statement_words (If condition block None) ≡ expression_words condition + 2 + statements_words block
words-when condition block = words_at (If condition block None) (S.Stmt-F.If condition block None) (rolls-If condition block None)

pub words-either : (condition : Expr) (block other : List Stmt) → statement_words (If condition block (Some other)) ≡ expression_words condition + 2 + statements_words block + 2 + statements_words other
words-either condition block other = words_at (If condition block (Some other)) (S.Stmt-F.If condition block (Some other)) (rolls-If condition block (Some other))

module _ (program : Program) where
  code_at : (s : Stmt) (x : S.Stmt-F Stmt) (scope : Scope) (at : ℕ) → S.roll-Stmt x ≡ s → (statement_code program s scope).code at ≡ (statement_code_step program (S.map-Stmt Stmt Template (statement_code program) x) scope).code at
  code_at s x scope at is = ap (λ t. (statement_code program t scope).code at) (sym is) ∙ ap (λ c. c.code at) (statement_code-layer program x scope)

  pub code-when : (condition : Expr) (block : List Stmt) (scope : Scope) (at : ℕ) → (statement_code program (If condition block None) scope).code at
      ≡ expression_code program condition scope.locals
      ++ (JumpZ (at + expression_words condition + 2 + statements_words block) ∷ (statements_code program block scope).code (at + expression_words condition + 2))
  code-when condition block scope at =
      let test = expression_code program condition scope.locals in
      let inside = (statements_code program block scope).code in
      code_at (If condition block None) (S.Stmt-F.If condition block None) scope at (rolls-If condition block None)
      ∙ ap (λ n. test ++ when_code inside (at + n)) (size-expression_code program condition scope.locals)
      ∙ ap (λ n. test ++ (JumpZ (at + expression_words condition + 2 + n) ∷ inside (at + expression_words condition + 2)))
      (size-statements_code program block scope (at + expression_words condition + 2))

  pub code-either : (condition : Expr) (block other : List Stmt) (scope : Scope) (at : ℕ) → (statement_code program (If condition block (Some other)) scope).code at
      ≡ expression_code program condition scope.locals
      ++ (JumpZ (at + expression_words condition + 2 + statements_words block + 2)
      ∷ ((statements_code program block scope).code (at + expression_words condition + 2)
      ++ (Jump (at + expression_words condition + 2 + statements_words block + 2 + statements_words other)
      ∷ (statements_code program other (behind_block scope (statements_code program block scope).behind)).code (at + expression_words condition + 2 + statements_words block + 2))))
  code-either condition block other scope at =
      let test = expression_code program condition scope.locals in
      let first = statements_code program block scope in
      let second = statements_code program other (behind_block scope first.behind) in
      let q = at + expression_words condition in
      let r = q + 2 + statements_words block + 2 in
      code_at (If condition block (Some other)) (S.Stmt-F.If condition block (Some other)) scope at (rolls-If condition block (Some other))
      ∙ ap (λ n. test ++ either_code first.code second.code (at + n)) (size-expression_code program condition scope.locals)
      ∙ ap (λ n. test ++ (JumpZ (q + 2 + n + 2) ∷ (first.code (q + 2) ++ (Jump (q + 2 + n + 2 + size (second.code (q + 2 + n + 2))) ∷ second.code (q + 2 + n + 2)))))
      (size-statements_code program block scope (q + 2))
      ∙ ap (λ n. test ++ (JumpZ r ∷ (first.code (q + 2) ++ (Jump (r + n) ∷ second.code r))))
      (size-statements_code program other (behind_block scope first.behind) r)

  pub code-loop : (name : Name) (count : ℕ) (block : List Stmt) (scope : Scope) (at : ℕ) → (statement_code program (Repeat name count block) scope).code at
      ≡ Push 0 ∷ SetL scope.next ∷ (head_code scope.next count (at + 11 + statements_words block + 9)
      ++ ((statements_code program block (declare name.text scope)).code (at + 11) ++ turn_code scope.next (at + 4)))
  code-loop name count block scope at =
      let inside = (statements_code program block (declare name.text scope)).code in
      code_at (Repeat name count block) (S.Stmt-F.Repeat name count block) scope at (rolls-Repeat name count block)
      ∙ ap (λ n. Push 0 ∷ SetL scope.next ∷ (head_code scope.next count (at + 11 + n + 9) ++ (inside (at + 11) ++ turn_code scope.next (at + 4))))
      (size-statements_code program block (declare name.text scope) (at + 11))

  -- what is put for them is their code
  pub when_put : (s : Stmt) (condition : Expr) (block : List Stmt) (other : Option (List Stmt)) (scope : Scope) (out test inside all : List Instr) (at middle end : ℕ) →
      s ≡ If condition block other → other ≡ None → test ≡ out ++ expression_code program condition scope.locals → middle ≡ at + expression_words condition →
      inside ≡ (statements_code program block scope).code (middle + 2) → end ≡ middle + 2 + statements_words block →
      all ≡ test ++ (JumpZ end ∷ inside) → all ≡ out ++ (statement_code program s scope).code at
  when_put s condition block other scope out test inside all at middle end s_is other_is test_is middle_is inside_is end_is all_is =
      rw (all_is, test_is, inside_is, end_is, middle_is, s_is, other_is, code-when condition block scope at) (append_assoc out (expression_code program condition scope.locals) _)

  pub either_put : (s : Stmt) (condition : Expr) (block : List Stmt) (other : Option (List Stmt)) (rest : List Stmt) (scope inner : Scope) (out test first second all : List Instr) (at middle end last : ℕ) →
      s ≡ If condition block other → other ≡ Some rest → test ≡ out ++ expression_code program condition scope.locals → middle ≡ at + expression_words condition →
      first ≡ (statements_code program block scope).code (middle + 2) → end ≡ middle + 2 + statements_words block →
      inner ≡ behind_block scope (statements_code program block scope).behind →
      second ≡ (statements_code program rest inner).code (end + 2) → last ≡ end + 2 + statements_words rest →
      all ≡ test ++ (JumpZ (end + 2) ∷ (first ++ (Jump last ∷ second))) → all ≡ out ++ (statement_code program s scope).code at
  either_put s condition block other rest scope inner out test first second all at middle end last s_is other_is test_is middle_is first_is end_is inner_is second_is last_is all_is =
      rw (all_is, test_is, second_is, last_is, inner_is, first_is, end_is, middle_is, s_is, other_is, code-either condition block rest scope at) (append_assoc out (expression_code program condition scope.locals) _)

  pub loop_put : (s : Stmt) (name : Name) (count : ℕ) (block : List Stmt) (scope : Scope) (out inside all : List Instr) (at slot end : ℕ) →
      s ≡ Repeat name count block → slot ≡ scope.next → inside ≡ (statements_code program block (declare name.text scope)).code (at + 11) → end ≡ at + 11 + statements_words block →
      all ≡ out ++ (Push 0 ∷ SetL slot ∷ (head_code slot count (end + 9) ++ (inside ++ turn_code slot (at + 4)))) → all ≡ out ++ (statement_code program s scope).code at
  loop_put s name count block scope out inside all at slot end s_is slot_is inside_is end_is all_is =
      rw (all_is, inside_is, end_is, slot_is, s_is, code-loop name count block scope at) refl
