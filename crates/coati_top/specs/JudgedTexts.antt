-- A text that was read may be judged.
use Rattle.std.specs.Prelude.{ℕ, ◌<◌, ◌^◌, List, length}
use Rattle.coati_replay.specs.Text.{IsTextOf}
use Rattle.serial_log.specs.declared.printed.Printed.{Printed}
use Rattle.task_syntax.specs.declared.program.Program.{Program}
use Rattle.trace_out.specs.Printed.{PrintedText}

-- what a printed text says names parts of its program alone
abbrev pub PrintedTextsMayBeJudged : Type 0
PrintedTextsMayBeJudged =
    (program : Program) (text : List ℕ) (printed : Printed) → length text < 2 ^ 31 →
    PrintedText program text printed → IsTextOf program printed
