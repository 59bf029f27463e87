-- The text of a run is serial and legal where it is replayed.
use Rattle.std.specs.Prelude.{◌≡◌, ℕ, List}
use Rattle.coati_word.specs.declared.mode.Mode.{Mode}
use Rattle.coati_board.specs.Board.{Whole}
use Rattle.shown_runs.specs.Ranges.{TellsNumbersInRange}
use Rattle.trace_out.specs.BoardText.{board_text}
use Rattle.coati_top.specs.Answer.{AsksFor}
use Rattle.coati_top.specs.Divided.{second_part}
use Rattle.coati_top.specs.Replayed.{HasSerialPrint}
use Rattle.coati_top.specs.Runs.{IsRun}
use Rattle.coati_top.specs.Source.{HasAccepted}

-- a run that an input asks for tells numbers in range
abbrev pub RunsTellNumbersInRange : Type 0
RunsTellNumbersInRange =
    (mode : Mode) (input : List ℕ) (run : Whole) → AsksFor input run.program run.script →
    (made : IsRun mode run) → TellsNumbersInRange run made.closed.before

-- the first input asks for a run, which was made; the other one has the same program, and its
-- second part is the text of the run
pub record HasRunText (mode : Mode) (first input : List ℕ) (run : Whole) : Type 0 where
  pub asked : AsksFor first run.program run.script
  pub made : IsRun mode run
  pub source : HasAccepted input run.program
  pub text : second_part input ≡ board_text run

-- such an input is one that `replay` serves in the mode of the run
abbrev pub RunsReplaySerially : Type 0
RunsReplaySerially = (mode : Mode) (first input : List ℕ) (run : Whole) →
    HasRunText mode first input run → HasSerialPrint mode input
