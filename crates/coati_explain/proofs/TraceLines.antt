-- The line that is told of a trace is one of its lines, or the one before them.
use Rattle.std.proofs.Common.{ℕ, ◌+◌, ◌≤◌, List, [], ◌∷◌, length, ap, arith, inl, inr, length-append}
use Rattle.std.specs.Prelude.{Option}
use Rattle.std.proofs.lemmas.Bool.{cases_Bool}
use Rattle.coati_text.specs.Line.{lines_of}
use Rattle.task_syntax.specs.declared.program.Program.{Program}
use Rattle.serial_log.specs.declared.script.Script.{Script}
use Rattle.trace_text.specs.Answer.{Explains}
use Rattle.trace_text.specs.Fields.{is_quiet}
use Rattle.trace_text.specs.Trace.{FaultAt}
use Rattle.trace_text.specs.declared.fault.TraceFault.{TraceFault}
use Rattle.trace_text.specs.declared.fault.TraceFault.TheVariants as fault
use Rattle.trace_text.proofs.LineCounts.{lines_of-at_most}
use Rattle.coati_explain.specs.Trace.{first_among, told_line}

first_among-within : (passed : ℕ) (lines : List (List ℕ)) → first_among passed lines ≤ passed + length lines
first_among-within passed [] = omega arith
first_among-within passed (line ∷ more) = elim (cases_Bool (is_quiet line)) [
  | inl quiet ↦ rw quiet (omega (arith, first_among-within (passed + 1) more))
  | inr said ↦ rw said (omega arith)
]

FaultAt-within : (program : Program) (trace : List ℕ) (number : ℕ) (IsFault : Program → Option Script → List ℕ → Type 0)
    → FaultAt program (lines_of trace) number IsFault → number ≤ length trace
FaultAt-within program trace number IsFault at =
    omega (arith, at.counted, ap length at.lines_are, length-append at.front (at.line ∷ at.more), lines_of-at_most trace)

pub told_line-within : (program : Program) (trace : List ℕ) (told : TraceFault) → Explains program trace told → told_line trace told ≤ length trace
told_line-within program trace (fault.BadLine number) why = FaultAt-within program trace number _ why
told_line-within program trace (fault.Unknown number) why = FaultAt-within program trace number _ why
told_line-within program trace (fault.Order number) why = FaultAt-within program trace number _ why
told_line-within program trace (fault.TooMany number) why = FaultAt-within program trace number _ why
told_line-within program trace fault.NoLimit why = omega (arith, first_among-within 0 (lines_of trace), lines_of-at_most trace)
told_line-within program trace fault.OutOfMemory why = omega arith
