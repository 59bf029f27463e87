-- Laws of the numbers that a run tells.
use Rattle.std.specs.Prelude.{List}
use Rattle.coati_word.specs.declared.mode.Mode.{Mode}
use Rattle.serial_log.specs.declared.end.End.{End}
use Rattle.serial_log.specs.declared.mark.Mark.{Mark}
use Rattle.serial_log.specs.declared.script.Script.{Script}
use Rattle.task_syntax.specs.declared.program.Program.{Program}
use Rattle.coati_board.specs.Board.{IsOpened, Whole}
use Rattle.executor.specs.Run.{HasRun}
use Rattle.shown_runs.specs.Counts.{IsCounted}
use Rattle.shown_runs.specs.Ranges.{HasEnded, IsTold, TellsNumbersInRange}

-- a run that began with the opening of a board is counted
abbrev pub RunsAreCounted : Type 0
RunsAreCounted =
    (program : Program) (mode : Mode) (script : Script) (start run : Whole) (end : End) →
    IsOpened program mode script start → HasRun start end run → IsCounted run.device

-- what the text of a run tells is in range
abbrev pub RunsTellNumbersInRange : Type 0
RunsTellNumbersInRange =
    (mode : Mode) (run : Whole) (before : List Mark) → HasEnded mode run before → IsTold run →
    TellsNumbersInRange run before
