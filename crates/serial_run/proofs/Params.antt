-- Parameters, each with its word.
use Rattle.std.proofs.Common.{◌≡◌, ℕ, ◌+◌, ◌<◌, ◌≤◌, List, [], ◌∷◌, drop, length, get_or, refl, arith, inl, inr}
use Rattle.std.specs.Prelude.{slice_index, min}
use Rattle.std.proofs.Math.Numerals.{add-one}
use Rattle.std.proofs.Math.Seq.{drop-cons}
use Rattle.std.proofs.lemmas.Bool.{cases_lt}
use Rattle.std.proofs.lemmas.List.{drop_all}
use Rattle.task_syntax.specs.declared.name.Name.{Name}
use Rattle.task_syntax.specs.Expressions.{Locals, with_local}
use Rattle.task_syntax.specs.Events.{with_words}
use Rattle.serial_run.proofs.Rests.{rest-is}

without-words : (names : List Name) (locals : Locals) → with_words names [] locals ≡ locals
without-words [] locals = refl
without-words (name ∷ more) locals = refl

module _ (names : List Name) (words : List ℕ) (at : ℕ) (locals : Locals) where
  -- the parameter whose turn it is is set, and the rest are left
  pub params-more : (name : Name) → at < length names → at < length words → name ≡ get_or names at name →
      with_words (drop at names) (drop at words) locals ≡ with_words (drop (at + 1) names) (drop (at + 1) words) (with_local name.text (slice_index words at) locals)
  params-more name here below is = rw (rest-is names at name here is, drop-cons words at 0 below, ← add-one at) refl

  -- no parameter is left, or no word
  pub params-end : min (length names) (length words) ≤ at → with_words (drop at names) (drop at words) locals ≡ locals
  params-end past =
      elim (cases_lt at (length names)) [
        | inl inside ↦ rw (drop_all at words (omega arith)) (without-words (drop at names) locals)
        | inr beyond ↦ rw (drop_all at names beyond) refl
      ]
