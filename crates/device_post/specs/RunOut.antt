-- A board that devices and the executor have run, each in a thread of its own.
use Rattle.std.specs.Prelude.{◌≡◌, ◌⊎◌, None}
use Rattle.coati_board.specs.Board.{IsIdleBoard, IsOpen, IsSameRun, Whole, first_left}
use Rattle.coati_board.specs.Postings.{ArePostingsWhole}

-- nothing is left to do, or the executor has made its steps
abbrev pub HasCome : Whole → Type 0
HasCome board = IsIdleBoard board ⊎ (board.device.steps ≡ board.script.limit)

-- Each device has raised its whole script, and the run has come to its end. It isn't closed yet.
pub record HasRunOut (old new : Whole) : Type 0 where
  pub same : IsSameRun old new
  pub still_open : IsOpen new
  pub come : HasCome new
  pub none_left : first_left new ≡ None
  pub whole : ArePostingsWhole new.script.postings new.device.history.marks
