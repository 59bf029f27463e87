-- What holds of a blank image.
use Rattle.std.specs.Prelude.{ℕ, ◌<◌, ◌≡◌, List, [], length, slice_index}
use Rattle.coati_word.specs.declared.mode.Mode.{Mode}
use Rattle.nv_memory.specs.Seats.{IsSized}
use Rattle.nv_memory.specs.Blank.{blank}
use Rattle.nv_memory.specs.InRange.{ArePlacesInRange, InRange, IsClosed}
use Rattle.nv_memory.specs.Ring.{held_entries}
use Rattle.nv_memory.specs.StandsFor.{committed_word, place_of}

-- it is in range, whatever the number of tasks, and stands for the opening values and the first
-- task, with nothing held
pub record IsBlankSound (opening : List ℕ) (k : ℕ) (mode : Mode) : Type 0 where
  pub range : InRange (blank opening k mode)
  pub places : (tasks : ℕ) → 0 < tasks → ArePlacesInRange tasks (blank opening k mode)
  pub closed : IsClosed (blank opening k mode)
  pub words : (word : ℕ) → committed_word (blank opening k mode) word ≡ slice_index opening word
  pub place : place_of (blank opening k mode) ≡ 0
  pub held : held_entries (blank opening k mode) ≡ []

abbrev pub BlankImagesAreSound : Type 0
BlankImagesAreSound = (opening : List ℕ) (k : ℕ) (mode : Mode) → IsSized (length opening) k →
    IsBlankSound opening k mode
