-- A scripted run. Before each step the first posting that is left is raised, where its time has
-- come. The run ends where nothing is left to do and no posting is left, or at the limit of steps.
use Rattle.std.specs.Prelude.{◌<◌, ◌≤◌, ◌≡◌, ◌↔◌, ◌⊎◌, Some}
use Rattle.serial_log.specs.declared.end.End.{End}
use Rattle.serial_log.specs.declared.end.End.TheVariants.{Idle}
use Rattle.serial_log.specs.declared.mark.Mark.{Mark}
use Rattle.serial_log.specs.declared.mark.MarkKind.TheVariants as kind
use Rattle.serial_log.specs.declared.posted.Answer.{Answer}
use Rattle.serial_log.specs.declared.script.Posting.{Posting}
use Rattle.serial_log.specs.History.{with_mark}
use Rattle.executor.specs.InTurn.{IsFirstToCome, turns_of}
use Rattle.coati_board.specs.Board.{IsBoardStep, IsOpen, IsOver, IsRaise, Whole, first_left, left_of}

-- the first posting that is left has come to its time
pub record IsDue (board : Whole) (posting : Posting) : Type 0 where
  pub first : first_left board ≡ Some posting
  pub come : posting.time ≤ board.device.clock

-- its device has it left
pub record CanBeRaised (board : Whole) (posting : Posting) : Type 0 where
  pub device : posting.device < 8
  pub left : 0 < left_of board posting.device

-- the first posting that is left, if there is one, is still to come
abbrev pub HasNoneDue : Whole → Type 0
HasNoneDue board =
    (posting : Posting) → first_left board ≡ Some posting → board.device.clock < posting.time

-- where a board goes from its opening on
pub data Goes (start : Whole) : Whole → Type 0 where
  begins : Goes start start
  raises : (now next : Whole) (posting : Posting) (answer : Answer) → Goes start now →
      IsDue now posting → IsRaise now posting.device next answer → Goes start next
  steps : (now next : Whole) → Goes start now → HasNoneDue now → (IsOver now → ⊥) →
      now.device.steps < now.script.limit → IsBoardStep now next → Goes start next

-- it has gone as far as it goes: it is over, or the executor has made its steps
pub record HasCome (board : Whole) : Type 0 where
  pub none_due : HasNoneDue board
  pub at_end : IsOver board ⊎ (board.device.steps ≡ board.script.limit)

-- the board with its End mark
abbrev pub closed : Whole → End → Whole
closed board end =
    let mark : Mark = record { at = board.device.clock; kind = kind.End end } in
    record board { device = record board.device { history = with_mark board.device.history mark } }

-- it ran to its end; no End mark stands before its own
pub record HasRun (start : Whole) (end : End) (board : Whole) : Type 0 where
  pub last : Whole
  pub goes : Goes start last
  pub come : HasCome last
  pub still_open : IsOpen last
  pub idle : (end ≡ Idle) ↔ IsOver last
  pub closed : board ≡ closed last end

-- it made all its steps, and the first posting that is left, if there is one, is still to come
pub record HasMadeAllSteps (board : Whole) : Type 0 where
  pub steps : board.device.steps ≡ board.script.limit
  pub to_come : IsFirstToCome board.device.clock
      (turns_of board.script.postings board.device.history.marks).left
