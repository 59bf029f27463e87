-- What there is to do after a cut. The image alone tells it.
use Rattle.std.specs.Prelude.{◌≡◌, ◌≢◌}
use Rattle.nv_memory.specs.State.{State}
use Rattle.nv_memory.specs.Words.{doomed, mark}
use Rattle.reboot.specs.declared.phases.Phase.{Phase}
use Rattle.reboot.specs.declared.phases.Phase.TheVariants as phase

-- a commit that is under way comes first, then the undo of an aborted transaction; each state has
-- one phase
abbrev pub IsAfterCut : State → Phase → Type 0
IsAfterCut s phase.Apply = mark s ≢ 0
IsAfterCut s phase.Undo = (mark s ≡ 0) × (doomed s ≡ 1)
IsAfterCut s phase.Choose = (mark s ≡ 0) × (doomed s ≢ 1)
