-- What it rests on that the numbers which the text of a run tells are in range.
use Rattle.std.specs.Prelude.{◌≡◌, ◌≤◌, List, [], ◌∷◌, ◌++◌, None, length}
use Rattle.coati_word.specs.declared.mode.Mode.{Mode}
use Rattle.serial_log.specs.declared.end.End.{End}
use Rattle.serial_log.specs.declared.mark.Mark.{Mark}
use Rattle.serial_log.specs.declared.mark.MarkKind.TheVariants as kind
use Rattle.serial_log.specs.Legal.{IsLegalHistory}
use Rattle.serial_log.specs.SerialRun.{stand_of}
use Rattle.serial_log.specs.Standing.{rest_of}
use Rattle.task_check.specs.Accepted.{IsAccepted}
use Rattle.task_check.specs.WellFormed.{IsWellFormed}
use Rattle.coati_board.specs.Board.{IsOpened, Whole, end_of, terms_of}
use Rattle.executor.specs.InTurn.{ArePostingsInTurn}
use Rattle.executor.specs.Run.{HasRun}
use Rattle.trace_text.specs.Trace.{IsScriptFor, IsWithin}
use Rattle.trace_out.specs.ShownRun.{IsShowable}
use Rattle.word_values.specs.Words.{IsOfWords}

-- a board was opened and ran to its end, within the limit, each posting in its turn; its history is
-- legal, and its End mark is the last and the only one
pub record HasEnded (mode : Mode) (run : Whole) (before : List Mark) : Type 0 where
  pub start : Whole
  pub opened : IsOpened run.program mode run.script start
  pub end : End
  pub ran : HasRun start end run
  pub limit : run.device.steps ≤ run.script.limit
  pub in_turn : ArePostingsInTurn run.script.postings run.device.history.marks
  pub legal : IsLegalHistory (terms_of run.program mode) run.device.history
  pub last : run.device.history.marks
      ≡ before ++ record { at = run.device.clock; kind = kind.End end } ∷ []
  pub only : end_of before ≡ None

-- the program is an accepted one of words, and the script is one that a trace may tell
pub record IsTold (run : Whole) : Type 0 where
  pub accepted : IsAccepted run.program
  pub formed : IsWellFormed run.program
  pub words : IsOfWords run.program
  pub within : IsWithin run.program run.script
  pub script : IsScriptFor run.program run.script

-- the numbers that the text of a run tells, with these marks before its End mark, are in range
abbrev pub TellsNumbersInRange : Whole → List Mark → Type 0
TellsNumbersInRange run before =
    IsShowable run.program before run.device.history.readings
    (stand_of run.program run.device.history).store
    (length (rest_of run.program run.device.history.marks))
