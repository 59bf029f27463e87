-- Laws of printed texts and their verdicts.
use Rattle.std.specs.Prelude.{◌≡◌, ◌↔◌, length}
use Rattle.coati_word.specs.declared.mode.Mode.{Mode}
use Rattle.task_syntax.specs.declared.program.Program.{Program}
use Rattle.task_syntax.specs.Names.{word_count}
use Rattle.task_cost.specs.Limits.{period_bound}
use Rattle.serial_log.specs.declared.printed.Printed.{Printed}
use Rattle.serial_log.specs.Printed.{IsSerialAndLegal}
use Rattle.coati_replay.specs.declared.verdict.Verdict.{Verdict}
use Rattle.coati_replay.specs.Conditions.{terms_of}
use Rattle.coati_replay.specs.Verdicts.{IsSerial, IsVerdict}

-- no text has two verdicts
abbrev pub VerdictsAreUnique : Type 0
VerdictsAreUnique = (program : Program) (mode : Mode) (printed : Printed) (one other : Verdict) →
    IsVerdict program mode printed one → IsVerdict program mode printed other → one ≡ other

-- each text has one: all its lines meet their conditions, or one is the first that doesn't
abbrev pub EachTextHasAVerdict : Type 0
EachTextHasAVerdict = (program : Program) (mode : Mode) (printed : Printed) →
    (verdict : Verdict) × IsVerdict program mode printed verdict

-- the texts whose lines all meet their conditions are those that are serial and legal
abbrev pub SerialTextsAreLegal : Type 0
SerialTextsAreLegal = (program : Program) (mode : Mode) (printed : Printed) →
    length printed.values ≡ word_count program.vars →
    IsSerial program mode printed
    ↔ IsSerialAndLegal (terms_of program mode) (period_bound program) printed
