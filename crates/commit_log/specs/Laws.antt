-- The laws of commits: no write of theirs changes what the image stands for, and they end.
use Rattle.std.specs.Prelude.{ℕ, ◌+◌, ◌*◌, ◌<◌, ◌≤◌, ◌≡◌, ◌≢◌, ◌↔◌, Some}
use Rattle.nv_memory.specs.Frames.{StandsForTheSame}
use Rattle.nv_memory.specs.InRange.{ArePlacesInRange, InRange, IsClosed}
use Rattle.nv_memory.specs.State.{Change, State, first_undone, put}
use Rattle.nv_memory.specs.Words.{mark}
use Rattle.commit_log.specs.Changes.{commit_changes}
use Rattle.commit_log.specs.Left.{writes_left}
use Rattle.commit_log.specs.OpenUnit.{KeepsUnit}

-- what the image stands for stays, and so do the ranges and that a closed transaction leaves
-- nothing behind
pub record Keeps (old new : State) : Type 0 where
  pub meaning : StandsForTheSame old new
  pub range : InRange new
  pub places : (tasks : ℕ) → ArePlacesInRange tasks old → ArePlacesInRange tasks new
  pub closed : IsClosed new

-- the change is the next of the commit under way
pub record IsCommitWrite (s : State) (change : Change) : Type 0 where
  pub range : InRange s
  pub closed : IsClosed s
  pub next : first_undone s (commit_changes s) ≡ Some change

abbrev pub CommitsKeep : Type 0
CommitsKeep = (s : State) (change : Change) → IsCommitWrite s change → Keeps s (put s change)

-- an open unit is the same while a task goes into it, and while an event is committed under it
abbrev pub CommitsKeepTheUnit : Type 0
CommitsKeepTheUnit =
    (s : State) (change : Change) → IsCommitWrite s change → mark s ≢ 2 →
    KeepsUnit s (put s change)

-- each write leaves fewer
abbrev pub CommitsGoOn : Type 0
CommitsGoOn =
    (s : State) (change : Change) → IsCommitWrite s change
    → writes_left (put s change) < writes_left s

-- so many are left at most, and fewer of an event's commit
abbrev pub FewWritesAreLeft : Type 0
FewWritesAreLeft = (s : State) → InRange s → writes_left s ≤ 8 * s.n + 20

abbrev pub EventsHaveFewWrites : Type 0
EventsHaveFewWrites = (s : State) → mark s ≡ 3 → writes_left s ≤ s.n + 2

-- none is left exactly where no commit is under way
abbrev pub NoWriteIsLeft : Type 0
NoWriteIsLeft = (s : State) → InRange s → (writes_left s ≡ 0) ↔ (mark s ≡ 0)
