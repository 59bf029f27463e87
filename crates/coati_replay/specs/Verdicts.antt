-- What is found of a printed text: each line meets its condition, or one is the first that
-- doesn't.
use Rattle.std.specs.Prelude.{ℕ, ◌+◌, ◌≡◌, List, ◌∷◌, ◌++◌, length}
use Rattle.coati_word.specs.declared.mode.Mode.{Mode}
use Rattle.task_syntax.specs.declared.program.Program.{Program}
use Rattle.serial_log.specs.declared.printed.Printed.{Printed}
use Rattle.serial_log.specs.Standing.{opening}
use Rattle.coati_replay.specs.declared.verdict.Verdict.{Verdict}
use Rattle.coati_replay.specs.declared.verdict.Verdict.TheVariants.{Serial, Differs}
use Rattle.coati_replay.specs.Text.{TextLine, text_lines}
use Rattle.coati_replay.specs.Conditions.{AreMet, MeetsCondition, behind_text}

-- each line meets its condition
abbrev pub IsSerial : Program → Mode → Printed → Type 0
IsSerial program mode printed =
    AreMet program mode printed.readings (opening program) (text_lines program printed)

-- the line of this number is the first that doesn't
pub record DiffersAt (program : Program) (mode : Mode) (printed : Printed) (number : ℕ)
    : Type 0 where
  pub before : List TextLine
  pub line : TextLine
  pub more : List TextLine
  pub lines : text_lines program printed ≡ before ++ line ∷ more
  pub number_is : number ≡ length before + 1
  pub met : AreMet program mode printed.readings (opening program) before
  pub unmet : MeetsCondition program mode printed.readings
      (behind_text program mode printed.readings (opening program) before) line → ⊥

-- the verdict is that of the text
abbrev pub IsVerdict : Program → Mode → Printed → Verdict → Type 0
IsVerdict program mode printed Serial = IsSerial program mode printed
IsVerdict program mode printed (Differs number) = DiffersAt program mode printed number
