-- What is found of an input whose second part is to be a printed text of its program: it is serial
-- and legal, it differs, or it is no printed text; and what is said of each.
use Rattle.std.specs.Prelude.{ℕ, List, ◌++◌, codes}
use Rattle.coati_replay.specs.Conditions.{terms_of}
use Rattle.coati_replay.specs.Verdicts.{DiffersAt}
use Rattle.coati_word.specs.declared.mode.Mode.{Mode}
use Rattle.serial_log.specs.declared.printed.Printed.{Printed}
use Rattle.serial_log.specs.Printed.{IsSerialAndLegal}
use Rattle.task_cost.specs.Limits.{period_bound}
use Rattle.task_syntax.specs.declared.program.Program.{Program}
use Rattle.trace_out.specs.Lines.{number_line, word_and_number}
use Rattle.trace_out.specs.Printed.{IsBadLine, PrintedText}
use Rattle.coati_top.specs.Divided.{second_part}
use Rattle.coati_top.specs.Source.{HasAccepted}

-- the source is this program, which is accepted, and the second part is a printed text of it that
-- says this
pub record HasPrint (input : List ℕ) (program : Program) (printed : Printed) : Type 0 where
  pub source : HasAccepted input program
  pub text : PrintedText program (second_part input) printed

-- the second part is a printed text of the program that is serial and legal for the mode
pub record HasSerialPrint (mode : Mode) (input : List ℕ) : Type 0 where
  pub program : Program
  pub printed : Printed
  pub says : HasPrint input program printed
  pub serial : IsSerialAndLegal (terms_of program mode) (period_bound program) printed

-- it is a printed text of the program, and this line of it is the first that doesn't meet its
-- condition
pub record HasDifference (mode : Mode) (input : List ℕ) (number : ℕ) : Type 0 where
  pub program : Program
  pub printed : Printed
  pub says : HasPrint input program printed
  pub differs : DiffersAt program mode printed number

-- it is no printed text of the program: this line of it is missing, or is the first without an
-- allowed form
pub record HasBadPrint (input : List ℕ) (number : ℕ) : Type 0 where
  pub program : Program
  pub source : HasAccepted input program
  pub bad : IsBadLine program (second_part input) number

abbrev pub serial_text : List ℕ
serial_text = codes "serial\n"

abbrev pub difference : ℕ → List ℕ
difference number = number_line (codes "differs line") number

abbrev pub bad_print : ℕ → List ℕ
bad_print number = word_and_number (codes "printed line") number ++ codes " bad\n"
