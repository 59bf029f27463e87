-- A walk over marks from the left, from state to state.
use Rattle.std.specs.Prelude.{List, [], ◌∷◌}
use Rattle.serial_log.specs.declared.mark.Mark.{Mark}

module _ {State : Type 0} (step : State → Mark → State) where
  -- where marks lead
  abbrev pub walk : State → List Mark → State
  walk s [] = s
  walk s (mark ∷ more) = walk (step s mark) more

  -- each mark is so where those before it lead
  abbrev pub Each : (State → Mark → Type 0) → State → List Mark → Type 0
  Each P s [] = Unit {0}
  Each P s (mark ∷ more) = P s mark × Each P (step s mark) more
