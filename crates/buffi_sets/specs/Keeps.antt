-- What a write leaves as it is where it changes nothing of what memory stands for.
use Rattle.std.specs.Prelude.{ℕ}
use Rattle.nv_memory.specs.State.{State}
use Rattle.nv_memory.specs.Frames.{StandsForTheSame}
use Rattle.nv_memory.specs.InRange.{ArePlacesInRange, InRange, IsClosed}

-- what the image stands for stays, and so do the ranges and that a closed transaction is empty
pub record Keeps (old new : State) : Type 0 where
  pub meaning : StandsForTheSame old new
  pub range : InRange new
  pub places : (tasks : ℕ) → ArePlacesInRange tasks old → ArePlacesInRange tasks new
  pub closed : IsClosed new
