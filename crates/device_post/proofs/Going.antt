-- A board on its way to the end of a run.
use Rattle.std.proofs.Common.{◌∙◌}
use Rattle.coati_board.specs.Board.{IsOpen, IsSameRun, Whole}
use Rattle.booth.specs.Left.{HasRoom}

pub record IsGoing (start now : Whole) : Type 0 where
  pub same : IsSameRun start now
  pub room : HasRoom now
  pub still_open : IsOpen now

pub same_still : (first second third : Whole) → IsSameRun first second →
    IsSameRun second third → IsSameRun first third
same_still first second third one two = record {
  program = two.program ∙ one.program;
  mode = two.mode ∙ one.mode;
  script = two.script ∙ one.script;
}
