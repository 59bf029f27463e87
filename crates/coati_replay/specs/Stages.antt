-- How far a text has been judged.
use Rattle.std.specs.Prelude.{ℕ, ◌+◌, ◌≡◌, List, ◌++◌, length}
use Rattle.coati_word.specs.declared.mode.Mode.{Mode}
use Rattle.task_syntax.specs.declared.program.Program.{Program}
use Rattle.serial_log.specs.declared.printed.Printed.{Printed}
use Rattle.serial_log.specs.Standing.{Standing, opening}
use Rattle.coati_replay.specs.declared.stage.Stage.{Stage}
use Rattle.coati_replay.specs.declared.stage.Stage.TheVariants.{Goes, Differs}
use Rattle.coati_replay.specs.Text.{TextLine, text_lines}
use Rattle.coati_replay.specs.Conditions.{AreMet, behind_text}
use Rattle.coati_replay.specs.Verdicts.{DiffersAt}
use Rattle.coati_replay.specs.Shown.{IsProgressOf, shown_by}

-- the lines before the one of this number met their conditions and led there, and these are left
pub record HasCome (program : Program) (mode : Mode) (printed : Printed) (s : Standing)
    (number : ℕ) (left : List TextLine) : Type 0 where
  pub before : List TextLine
  pub lines : text_lines program printed ≡ before ++ left
  pub number_is : number ≡ length before + 1
  pub met : AreMet program mode printed.readings (opening program) before
  pub leads : s ≡ behind_text program mode printed.readings (opening program) before

-- the text has been judged up to the line of this number, or differs before it
abbrev pub IsStage : Program → Mode → Printed → ℕ → List TextLine → Stage → Type 0
IsStage program mode printed number left (Goes progress) =
    HasCome program mode printed (shown_by progress) number left × IsProgressOf program progress
IsStage program mode printed number left (Differs at) = DiffersAt program mode printed at
