-- What may be answered about a text. Memory may run out at any time.
use Rattle.std.specs.Prelude.{ℕ, ◌≡◌, ◌⊎◌, List, Result, Ok, Err}
use Rattle.serial_log.specs.declared.printed.Printed.{Printed}
use Rattle.task_syntax.specs.declared.program.Program.{Program}
use Rattle.trace_out.specs.declared.fault.PrintFault.{PrintFault}
use Rattle.trace_out.specs.declared.fault.PrintFault.TheVariants.{BadLine, OutOfMemory}
use Rattle.trace_out.specs.Printed.{IsBadLine, PrintedText}

-- the line is the first of the text without an allowed form, or memory ran out
abbrev pub Explains : Program → List ℕ → PrintFault → Type 0
Explains program text (BadLine number) = IsBadLine program text number
Explains program text OutOfMemory = Unit {0}

-- the answer is this one, unless memory ran out
abbrev pub IsAnswer : Result Printed PrintFault → Result Printed PrintFault → Type 0
IsAnswer (Ok printed) answer = answer ≡ Ok printed
IsAnswer (Err OutOfMemory) answer = Unit {0}
IsAnswer (Err fault) answer = answer ≡ Err fault

-- the text is a printed text or has a first bad line
abbrev pub IsAnswered : Program → List ℕ → Type 0
IsAnswered program text =
    ((printed : Printed) × PrintedText program text printed)
    ⊎ ((number : ℕ) × IsBadLine program text number)
