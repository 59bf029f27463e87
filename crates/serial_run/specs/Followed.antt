-- What is found of tasks where readings were told of them beforehand.
use Rattle.std.specs.Prelude.{ℕ, ◌≡◌, ◌≤◌, List, ◌++◌, length, drop, slice_index, Option, Some, None}
use Rattle.coati_word.specs.declared.reading.Reading.{Reading}
use Rattle.task_syntax.specs.Course.{after, readings}
use Rattle.task_syntax.specs.Units.{Reached}
use Rattle.serial_run.specs.declared.follow.Followed.{Followed}

-- tasks have led from the one store to the other, and to this place
pub record LeadsFrom (before : List ℕ) (reached : Reached) (f : Followed) : Type 0 where
  pub store_after : slice_index f.store ≡ after reached.done (slice_index before)
  pub words : length f.store ≡ length before
  pub place_is : f.place ≡ reached.place

-- tasks have led there, and made the next of the readings
pub record HasFollowed (before : List ℕ) (reached : Reached) (reads : List Reading) (read : ℕ)
    (f : Followed) : Type 0 where
  pub led : LeadsFrom before reached f
  pub within : f.read ≤ length reads
  pub made : drop read reads ≡ readings reached.done ++ drop f.read reads

-- a task makes the next of the readings, or others
abbrev pub FollowsTask : List ℕ → Reached → List Reading → ℕ → Option Followed → Type 0
FollowsTask before effect reads read None =
    (rest : List Reading) → drop read reads ≡ readings effect.done ++ rest → ⊥
FollowsTask before effect reads read (Some f) = HasFollowed before effect reads read f

-- a whole unit made exactly these readings, and led there
pub record HasFollowedUnit (before : List ℕ) (whole : Option Reached) (reads : List Reading)
    (f : Followed) : Type 0 where
  pub reached : Reached
  pub whole_is : whole ≡ Some reached
  pub read : readings reached.done ≡ reads
  pub led : LeadsFrom before reached f

-- a unit is whole and makes exactly these readings, or not so
abbrev pub FollowsUnit : List ℕ → Option Reached → List Reading → Option Followed → Type 0
FollowsUnit before whole reads None =
    (reached : Reached) → whole ≡ Some reached → readings reached.done ≡ reads → ⊥
FollowsUnit before whole reads (Some f) = HasFollowedUnit before whole reads f
