use Rattle.std.proofs.Common.{ℕ, List, Result, Ok, Err, IfOk, IfErr, subst}
use Rattle.serial_log.specs.declared.printed.Printed.{Printed}
use Rattle.task_syntax.specs.declared.program.Program.{Program}
use Rattle.trace_out.specs.Answer.{Explains, IsAnswer}
use Rattle.trace_out.specs.Printed.{PrintedText}
use Rattle.trace_out.specs.Reading.{reading}
use Rattle.trace_out.specs.declared.fault.PrintFault.{PrintFault}
use Rattle.trace_out.specs.declared.fault.PrintFault.TheVariants.{BadLine, OutOfMemory}
use Rattle.trace_out.proofs.Faults.{bad-read, printed-read, read-bad, read-printed}
use Rattle.trace_out.proofs.Named.{names-accepted}
use Rattle.trace_out.proofs.UnitReads.{IsNamed}
use Rattle.trace_out.proofs.print_reader.read_print.Goals as goal

printed_answered : (program : Program) (text : List ℕ) (result : Result Printed PrintFault)
    → IsNamed program → IsAnswer result (reading program text) → IfOk result
    (PrintedText program text)
printed_answered program text (Ok printed) named is = read-printed program named text printed is
printed_answered program text (Err fault) named is = tt

fault_answered : (program : Program) (text : List ℕ) (result : Result Printed PrintFault)
    → IsNamed program → IsAnswer result (reading program text) → IfErr result
    (Explains program text)
fault_answered program text (Ok printed) named is = tt
fault_answered program text (Err OutOfMemory) named is = tt
fault_answered program text (Err (BadLine number)) named is = read-bad program named text number is

pub returns-clause-printed : goal.returns-clause-printed
returns-clause-printed c =
    let program = c.args.checked.now in
    let named =
    names-accepted program c.program-program.ensures.accepted
    c.program-program.ensures.well_formed in
    printed_answered program c.args.text.now c.printed_of.result named c.printed_of.ensures

pub returns-clause-fault : goal.returns-clause-fault
returns-clause-fault c =
    let program = c.args.checked.now in
    let named =
    names-accepted program c.program-program.ensures.accepted
    c.program-program.ensures.well_formed in
    fault_answered program c.args.text.now c.printed_of.result named c.printed_of.ensures

pub returns-clause-prints : goal.returns-clause-prints
returns-clause-prints c printed is =
    let program = c.args.checked.now in
    let named =
    names-accepted program c.program-program.ensures.accepted
    c.program-program.ensures.well_formed in
    subst (λ (answer : Result Printed PrintFault). IsAnswer c.printed_of.result answer)
    (printed-read program named c.args.text.now printed is) c.printed_of.ensures

pub returns-clause-faults : goal.returns-clause-faults
returns-clause-faults c number is =
    let program = c.args.checked.now in
    let named =
    names-accepted program c.program-program.ensures.accepted
    c.program-program.ensures.well_formed in
    subst (λ (answer : Result Printed PrintFault). IsAnswer c.printed_of.result answer)
    (bad-read program named c.args.text.now number is) c.printed_of.ensures
