-- How the script's postings stand: what was answered, and what is left to raise.
use Rattle.std.specs.Prelude.{ℕ, ◌+◌, ◌<◌, ◌≡◌, ◌≢◌, List, [], ◌∷◌, ◌++◌, map}
use Rattle.serial_log.specs.declared.mark.Mark.{Mark}
use Rattle.serial_log.specs.declared.posted.Answer.{Answer}
use Rattle.serial_log.specs.declared.posted.Posted.{Posted as Raised}
use Rattle.serial_log.specs.declared.script.Posting.{Posting}
use Rattle.serial_log.specs.Marks.{raised_postings}
use Rattle.serial_log.specs.Scripted.{of_device, sent_as, sent_by}
use Rattle.coati_device.specs.Cursors.{AreCursors}
use Rattle.coati_board.specs.Board.{Whole, left_of}

-- the answers, in the order in which they were given
abbrev pub answers_of : List Mark → List Answer
answers_of marks = map (λ (posted : Raised). posted.answer) (raised_postings marks)

-- no device has a posting left
abbrev pub HasNoneLeft : Whole → Type 0
HasNoneLeft board = (device : ℕ) → device < 8 → left_of board device ≡ 0

-- no posting is raised
pub record RaisesNone (old new : Whole) : Type 0 where
  pub answers : answers_of new.device.history.marks ≡ answers_of old.device.history.marks
  pub left : (device : ℕ) → left_of new device ≡ left_of old device

-- a device's next posting is raised, and no other
pub record RaisesNext (old : Whole) (device : ℕ) (new : Whole) (answer : Answer) : Type 0 where
  pub answers : answers_of new.device.history.marks
      ≡ answers_of old.device.history.marks ++ answer ∷ []
  pub left : left_of new device + 1 ≡ left_of old device
  pub others : (other : ℕ) → other ≢ device → left_of new other ≡ left_of old other

-- each device has raised its postings in their order, each once; what is left comes behind
abbrev pub ArePostingsInOrder : Whole → Type 0
ArePostingsInOrder board =
    AreCursors board.script.postings board.device.history.marks board.device.cursors

-- each device has raised its whole script, in its order
abbrev pub ArePostingsWhole : List Posting → List Mark → Type 0
ArePostingsWhole postings marks =
    (device : ℕ) → device < 8 → of_device device (map sent_as (raised_postings marks))
    ≡ of_device device (map sent_by postings)
