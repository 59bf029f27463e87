-- The acts of a booth.
use Rattle.std.specs.Prelude.{ℕ, ◌+◌, ◌<◌, ◌≡◌, Bool, if◌then◌else◌}
use Rattle.serial_log.specs.declared.posted.Answer.{Answer}
use Rattle.coati_board.specs.Board.{IsBoardStep, IsOver, IsRaise, IsSameRun, Whole, left_of}
use Rattle.coati_board.specs.Postings.{HasNoneLeft}
use Rattle.booth.specs.declared.beat.Beat.{Beat}
use Rattle.booth.specs.declared.beat.Beat.TheVariants.{Stepped, Idle, Spent}
use Rattle.booth.specs.Views.{Counted, Place, Turns, is_accepted, is_full, is_lost}

abbrev pub one_if : Bool → ℕ
one_if kind = if kind then 1 else 0

-- a seat behind an answer
abbrev pub told_to : Place → Answer → Place
told_to place answer = record place {
  accepted = place.accepted + one_if (is_accepted answer);
  full = place.full + one_if (is_full answer);
  lost = place.lost + one_if (is_lost answer);
}

-- a booth behind an answer
abbrev pub counted_by : Counted → Answer → Whole → Counted
counted_by old answer board = record old {
  board = board;
  accepted = old.accepted + one_if (is_accepted answer);
  full = old.full + one_if (is_full answer);
  lost = old.lost + one_if (is_lost answer);
}

-- a device's next posting, raised and answered
pub record IsPost (device : ℕ) (old new : Counted) (answer : Answer) : Type 0 where
  pub some : 0 < left_of old.board device
  pub raise : IsRaise old.board device new.board answer
  pub totals : new ≡ counted_by old answer new.board

-- one step of the executor
pub record IsStepped (old new : Counted) (seat told : Turns) : Type 0 where
  pub more : IsOver old.board → ⊥
  pub below : old.board.device.steps < old.board.script.limit
  pub step : IsBoardStep old.board new.board
  pub same : IsSameRun old.board new.board
  pub totals : new ≡ record old { board = new.board; steps = old.steps + 1 }
  pub seat_is : told ≡ record seat { steps = seat.steps + 1 }

-- nothing is left to do, and no posting is left
pub record IsIdled (old new : Counted) (seat told : Turns) : Type 0 where
  pub over : IsOver old.board
  pub none_left : HasNoneLeft old.board
  pub totals : new ≡ record old { ends = 1 }
  pub seat_is : told ≡ record seat { ends = 1 }

-- the executor has made its steps
pub record IsSpent (old new : Counted) (seat told : Turns) : Type 0 where
  pub more : IsOver old.board → ⊥
  pub reached : old.board.device.steps ≡ old.board.script.limit
  pub totals : new ≡ old
  pub seat_is : told ≡ seat

-- one turn of the executor
abbrev pub IsTurn : Beat → Counted → Counted → Turns → Turns → Type 0
IsTurn Stepped old new seat told = IsStepped old new seat told
IsTurn Idle old new seat told = IsIdled old new seat told
IsTurn Spent old new seat told = IsSpent old new seat told

-- what its seat alone tells of it
abbrev pub IsTold : ℕ → Beat → Turns → Turns → Type 0
IsTold limit Stepped seat told = told ≡ record seat { steps = seat.steps + 1 }
IsTold limit Idle seat told = told ≡ record seat { ends = 1 }
IsTold limit Spent seat told = (told ≡ seat) × (seat.steps ≡ limit)
