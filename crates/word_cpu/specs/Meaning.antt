-- What a view of the variable words means to the machine, in one.
use Rattle.std.specs.Prelude.{ℕ, ◌≡◌, ◌↔◌, List, Bool}

pub record Meaning (V : Type 0) : Type 1 where
  -- the words that the view stands for
  pub words : V → List ℕ
  -- of the store of a value in a word the parts before this one are written
  pub begun : V → (word value part : ℕ) → Type 0
  -- what a load of a word makes of the view
  pub loaded : V → (word : ℕ) → V → Type 0
  -- what a part of the store of a value in a word makes of the view, and whether it was the last
  pub stored : V → (word value part : ℕ) → V → (is_last : Bool) → Type 0

-- what one view means is what another means that it shows: acts that speak of memory alone are
-- shown by each view of it
pub record Shows {V W : Type 0} (meaning : Meaning V) (shown : Meaning W) (show : V → W)
    : Type 0 where
  pub words : (view : V) → meaning.words view ≡ shown.words (show view)
  pub begun : (view : V) (word value part : ℕ) → meaning.begun view word value part ↔
      shown.begun (show view) word value part
  pub loaded : (old new : V) (word : ℕ) → meaning.loaded old word new →
      shown.loaded (show old) word (show new)
  pub stored : (old new : V) (word value part : ℕ) (is_last : Bool) →
      meaning.stored old word value part new is_last →
      shown.stored (show old) word value part (show new) is_last
