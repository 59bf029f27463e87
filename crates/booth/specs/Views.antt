-- What callers see of a booth and of seats.
use Rattle.std.specs.Prelude.{ℕ, zero, suc, ◌≡◌, Bool, true, false, if◌then◌else◌, List, [], ◌∷◌, ◌++◌, filter, length}
use Rattle.coati_word.specs.declared.mode.Mode.{Mode}
use Rattle.serial_log.specs.declared.mark.Mark.{Mark}
use Rattle.serial_log.specs.declared.posted.Answer.{Answer}
use Rattle.serial_log.specs.declared.posted.Answer.TheVariants.{Accepted, Full, Lost}
use Rattle.serial_log.specs.declared.script.Script.{Script}
use Rattle.task_syntax.specs.declared.program.Program.{Program}
use Rattle.coati_board.specs.Board.{IsOpen, IsOver, Whole}
use Rattle.coati_board.specs.Postings.{HasNoneLeft, answers_of}
use Rattle.booth.specs.Left.{HasRoom}

-- the kinds of answers
abbrev pub is_accepted : Answer → Bool
is_accepted (Accepted number) = true
is_accepted _ = false

abbrev pub is_full : Answer → Bool
is_full Full = true
is_full _ = false

abbrev pub is_lost : Answer → Bool
is_lost (Lost boot) = true
is_lost _ = false

-- how many answers of a history are of a kind
abbrev pub answers_in : (Answer → Bool) → List Mark → ℕ
answers_in kind marks = length (filter kind (answers_of marks))

-- a board with the totals of its ledgers
pub record Counted : Type 0 where
  pub board : Whole
  pub accepted : ℕ
  pub full : ℕ
  pub lost : ℕ
  pub steps : ℕ
  pub ends : ℕ

-- a device, and how many answers of each kind it was told
pub record Place : Type 0 where
  pub device : ℕ
  pub accepted : ℕ
  pub full : ℕ
  pub lost : ℕ

-- how many steps the executor was told of, and whether of the end
pub record Turns : Type 0 where
  pub steps : ℕ
  pub ends : ℕ

-- what a booth keeps
pub record IsBooth (program : Program) (mode : Mode) (script : Script) (counted : Counted)
    (ended : Bool) : Type 0 where
  pub program_is : counted.board.program ≡ program
  pub mode_is : counted.board.mode ≡ mode
  pub script_is : counted.board.script ≡ script
  pub still_open : IsOpen counted.board
  pub room : HasRoom counted.board
  pub accepted : counted.accepted ≡ answers_in is_accepted counted.board.device.history.marks
  pub full : counted.full ≡ answers_in is_full counted.board.device.history.marks
  pub lost : counted.lost ≡ answers_in is_lost counted.board.device.history.marks
  pub steps : counted.steps ≡ counted.board.device.steps
  pub ends : counted.ends ≡ (if ended then 1 else 0)
  pub over : ended ≡ true → IsOver counted.board
  pub none_left : ended ≡ true → HasNoneLeft counted.board

-- into how many parts the ledgers are cut
pub record IsCut (accepted full lost steps ends : ℕ) : Type 0 where
  pub accepted_is : accepted ≡ 8
  pub full_is : full ≡ 8
  pub lost_is : lost ≡ 8
  pub steps_is : steps ≡ 1
  pub ends_is : ends ≡ 1

-- what a booth begins as
abbrev pub fresh_booth : Whole → Counted
fresh_booth board = record {
  board = board;
  accepted = 0;
  full = 0;
  lost = 0;
  steps = 0;
  ends = 0;
}

abbrev pub fresh_place : ℕ → Place
fresh_place device = record { device = device; accepted = 0; full = 0; lost = 0 }

-- the first so many seats, that of each device at its place
abbrev pub fresh_places : ℕ → List Place
fresh_places zero = []
fresh_places (suc device) = fresh_places device ++ fresh_place device ∷ []

abbrev pub fresh_turns : Turns
fresh_turns = record { steps = 0; ends = 0 }
