-- The lines of a body, as far as a walk over its words has come.
use Rattle.std.proofs.Common.{◌≡◌, ℕ, ◌+◌, ◌<◌, List, ◌++◌, length, drop, refl, ap, ◌∙◌}
use Rattle.std.specs.Prelude.{None}
use Rattle.std.proofs.lemmas.List.{drop_more}
use Rattle.word_code.specs.Instruction.{decoded}
use Rattle.codegen.specs.Listing.{line_at, lines_from, operand_count}

module _ (words : List ℕ) (at : ℕ) (within : at < length words) where
  pub step : lines_from at 0 (drop at words) ≡ line_at at (decoded (drop at words)) ++ lines_from (at + 1) (operand_count (decoded (drop at words))) (drop (at + 1) words)
  step = rw (drop_more words at 0 within) refl

  -- where none does
  pub nothing : decoded (drop at words) ≡ None → lines_from at 0 (drop at words) ≡ lines_from (at + 1) 0 (drop (at + 1) words)
  nothing is = step ∙ ap (λ d. line_at at d ++ lines_from (at + 1) (operand_count d) (drop (at + 1) words)) is
