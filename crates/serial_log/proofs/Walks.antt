-- Walks over marks: a mark more, and other facts of the same marks.
use Rattle.std.proofs.Common.{◌≡◌, List, [], ◌∷◌, ◌++◌, refl, sym, subst}
use Rattle.serial_log.specs.declared.mark.Mark.{Mark}
use Rattle.serial_log.specs.Walk.{walk, Each}

module _ {State : Type 0} (step : State → Mark → State) where
  -- the walk goes on by one mark
  pub walk_push : (s : State) (marks : List Mark) (mark : Mark) → walk step s (marks ++ mark ∷ []) ≡ step (walk step s marks) mark
  walk_push s [] mark = refl
  walk_push s (first ∷ more) mark = walk_push (step s first) more mark

  -- so does what is so of each mark
  pub each_push : (P : State → Mark → Type 0) (s : State) (marks : List Mark) (mark : Mark) →
      Each step P s marks → P (walk step s marks) mark → Each step P s (marks ++ mark ∷ [])
  each_push P s [] mark each last = (last, tt)
  each_push P s (first ∷ more) mark each last = (each.0, each_push P (step s first) more mark each.1 last)

  -- what follows for a mark follows for each
  pub each_so : (P Q : State → Mark → Type 0) → ((s : State) (mark : Mark) → P s mark → Q s mark) → (s : State) (marks : List Mark) → Each step P s marks → Each step Q s marks
  each_so P Q so s [] each = tt
  each_so P Q so s (mark ∷ more) each = (so s mark each.0, each_so P Q so (step s mark) more each.1)

  -- one mark, and then those behind it from where it leads
  pub each_step : (P : State → Mark → Type 0) (s t : State) (mark : Mark) (more : List Mark) → P s mark → step s mark ≡ t → Each step P t more → Each step P s (mark ∷ more)
  each_step P s t mark more here leads there = (here, subst (λ (x : State). Each step P x more) (sym leads) there)
