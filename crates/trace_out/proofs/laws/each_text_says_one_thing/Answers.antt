use Rattle.std.proofs.Common.{◌≡◌, ◌∙◌, ℕ, List, Result, Ok, Err, inl, inr, refl, sym}
use Rattle.serial_log.specs.declared.printed.Printed.{Printed}
use Rattle.task_syntax.specs.declared.program.Program.{Program}
use Rattle.trace_out.specs.Answer.{IsAnswered}
use Rattle.trace_out.specs.Reading.{reading}
use Rattle.trace_out.specs.declared.fault.PrintFault.{PrintFault}
use Rattle.trace_out.proofs.Faults.{bad-line-one, good-not-bad, printed-read, read-fault, read-printed}
use Rattle.trace_out.proofs.Named.{names-accepted}
use Rattle.trace_out.proofs.UnitReads.{IsNamed}
use Rattle.trace_out.proofs.laws.each_text_says_one_thing.Goals as goal

answered : (program : Program) (text : List ℕ) → IsNamed program
    → (read : Result Printed PrintFault)
    → reading program text ≡ read → IsAnswered program text
answered program text names (Ok printed) was =
    inl (printed, read-printed program names text printed was)
answered program text names (Err fault) was =
    let found = read-fault program names text fault was in
    inr (found.0, found.2)

pub returns-clause-one : goal.returns-clause-one
returns-clause-one c program text accepted formed =
    answered program text (names-accepted program accepted formed) (reading program text) refl

pub returns-clause-printed : goal.returns-clause-printed
returns-clause-printed c program text printed other accepted formed one two =
    let names = names-accepted program accepted formed in
    let both : Ok printed ≡ Ok other =
    sym (printed-read program names text printed one)
    ∙ printed-read program names text other two in
    cc

pub returns-clause-line : goal.returns-clause-line
returns-clause-line c program text number other one two =
    bad-line-one program text number other one two

pub returns-clause-apart : goal.returns-clause-apart
returns-clause-apart c program text printed number accepted formed one two =
    good-not-bad program (names-accepted program accepted formed) text printed number one two
