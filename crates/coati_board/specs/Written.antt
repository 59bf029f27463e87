-- What a write of one word makes of the image.
use Rattle.std.specs.Prelude.{◌≡◌}
use Rattle.nv_memory.specs.Seats.{Memory}
use Rattle.nv_memory.specs.State.{Change, put, state}
use Rattle.coati_device.specs.TaskView.{HasWritten}

-- one change is made, and nothing else
pub record HasPut (old : Memory) (change : Change) (new : Memory) : Type 0 where
  pub written : HasWritten old change new
  pub state : state new ≡ put (state old) change
