-- A run: from the board that was opened to its end by the script, where it is ended.
use Rattle.std.specs.Prelude.{◌≡◌, ◌≤◌, List, [], ◌∷◌, ◌++◌, None}
use Rattle.coati_word.specs.declared.mode.Mode.{Mode}
use Rattle.coati_word.specs.declared.mode.Mode.TheVariants.{Buffi, Split}
use Rattle.nv_memory.specs.State.{state}
use Rattle.serial_log.specs.declared.end.End.{End}
use Rattle.serial_log.specs.declared.end.End.TheVariants.{Idle, Limit}
use Rattle.serial_log.specs.declared.mark.Mark.{Mark}
use Rattle.serial_log.specs.declared.mark.MarkKind.TheVariants as kind
use Rattle.serial_log.specs.Legal.{IsLegalHistory}
use Rattle.serial_log.specs.Progresses.{EndsTasksInTime, ServesAborts, ServesAtOnce, ServesBetweenUnits}
use Rattle.serial_log.specs.Scripted.{AreBootsAtPeriods}
use Rattle.serial_log.specs.SerialRun.{SerialRun}
use Rattle.serial_log.specs.Standing.{standing_of}
use Rattle.task_cost.specs.Limits.{period_bound}
use Rattle.coati_device.specs.Points.{StandsFor}
use Rattle.coati_board.specs.Board.{IsOpened, Whole, end_of, terms_of}
use Rattle.executor.specs.InTurn.{ArePostingsInTurn, turns_of}
use Rattle.executor.specs.Run.{HasMadeAllSteps, HasRun}

-- each posting of the script was raised
abbrev pub HasRaisedAll : Whole → Type 0
HasRaisedAll run = (turns_of run.script.postings run.device.history.marks).left ≡ []

-- what is so at each end
abbrev pub IsEndedBy : End → Whole → Type 0
IsEndedBy Idle run = HasRaisedAll run
IsEndedBy Limit run = HasMadeAllSteps run

-- the End mark stands behind all other marks, at the clock, and none of these is one
pub record IsClosedBy (end : End) (run : Whole) : Type 0 where
  pub before : List Mark
  pub last : run.device.history.marks
      ≡ before ++ record { at = run.device.clock; kind = kind.End end } ∷ []
  pub only : end_of before ≡ None

-- The board of a run in a mode: it was opened for its program and its script, ran to its end, and
-- was ended there, within the limit, with one End mark, the last. Each posting was raised in its
-- turn. The history is legal, and so a serial run of the program; memory stands for where the
-- history leads, what is held with it; the boots are at the ends of the power periods; events were
-- served between units; and where it was left alone for a power period that suffices, a task ended
-- in it, or nothing was left to do behind it.
pub record IsRun (mode : Mode) (run : Whole) : Type 0 where
  pub mode_is : run.mode ≡ mode
  pub start : Whole
  pub opened : IsOpened run.program mode run.script start
  pub end : End
  pub ran : HasRun start end run
  pub closed : IsClosedBy end run
  pub ended : IsEndedBy end run
  pub limit : run.device.steps ≤ run.script.limit
  pub in_turn : ArePostingsInTurn run.script.postings run.device.history.marks
  pub legal : IsLegalHistory (terms_of run.program mode) run.device.history
  pub serial : SerialRun run.program run.device.history
  pub stands : StandsFor run.program (state run.device.image)
      (standing_of run.program run.device.history.marks)
  pub boots : AreBootsAtPeriods run.program run.script.power run.device.clock
      run.device.history.marks
  pub split : mode ≡ Split → ServesBetweenUnits run.program run.device.history.marks
  pub buffi : mode ≡ Buffi → ServesAtOnce run.program run.device.history.marks
  pub aborts : ServesAborts run.device.history.marks
  pub progress : EndsTasksInTime run.program (period_bound run.program) run.device.clock
      run.device.history.marks
