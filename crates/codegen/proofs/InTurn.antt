-- Code of statements, one behind another, as far as a walk over them has come.
use Rattle.std.proofs.Common.{◌≡◌, ℕ, ◌+◌, ◌<◌, List, ◌∷◌, ◌++◌, length, map, drop, get_or, refl, sym, ap, ◌∙◌, append_assoc}
use Rattle.std.proofs.lemmas.List.{drop_more}
use Rattle.task_syntax.specs.declared.program.Program.{Program}
use Rattle.task_syntax.specs.declared.statement.Stmt.{Stmt}
use Rattle.task_syntax.specs.CodeWords.{statement_words, statements_words}
use Rattle.task_syntax.specs.LocalCount.{declared_count, declared_counts}
use Rattle.word_code.specs.declared.instruction.Instr.{Instr}
use Rattle.codegen.specs.Scope.{Scope}
use Rattle.codegen.specs.Templates.{statement_code, statements_code}
use Rattle.codegen.proofs.CodeSizes.{size-statement_code}
use Rattle.codegen.proofs.Fitting.{sum-cons}

module _ (block : List Stmt) (i : ℕ) (s : Stmt) (within : i < length block) (s_is : s ≡ get_or block i s) where
  -- the statement and those behind it
  left : drop i block ≡ s ∷ drop (i + 1) block
  left = drop_more block i s within ∙ ap (λ first. first ∷ drop (i + 1) block) (sym s_is)

  pub words_left : statements_words (drop i block) ≡ statement_words s + statements_words (drop (i + 1) block)
  words_left = ap statements_words left ∙ sum-cons (statement_words s) (map statement_words (drop (i + 1) block))

  pub slots_left : declared_counts (drop i block) ≡ declared_count s + declared_counts (drop (i + 1) block)
  slots_left = ap declared_counts left ∙ sum-cons (declared_count s) (map declared_count (drop (i + 1) block))

  module _ (program : Program) where
    pub scope_left : (scope inner : Scope) → inner ≡ (statement_code program s scope).behind →
        (statements_code program (drop (i + 1) block) inner).behind ≡ (statements_code program (drop i block) scope).behind
    scope_left scope inner inner_is = rw (inner_is, left) refl

    pub code_left : (scope inner : Scope) (out more : List Instr) (at next : ℕ) →
        more ≡ out ++ (statement_code program s scope).code at → next ≡ at + statement_words s → inner ≡ (statement_code program s scope).behind →
        more ++ (statements_code program (drop (i + 1) block) inner).code next ≡ out ++ (statements_code program (drop i block) scope).code at
    code_left scope inner out more at next more_is next_is inner_is =
        rw (more_is, inner_is, next_is, ← size-statement_code program s scope at, left) (append_assoc out ((statement_code program s scope).code at) _)
