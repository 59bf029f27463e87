use Rattle.std.proofs.Common.{Result, Ok, Err, ℕ, List, IfOk, IfErr, subst}
use Rattle.serial_log.specs.declared.script.Script.{Script}
use Rattle.task_syntax.specs.declared.program.Program.{Program}
use Rattle.trace_text.specs.Answer.{Explains, IsAnswer}
use Rattle.trace_text.specs.Reading.{reading}
use Rattle.trace_text.specs.Trace.{TraceText}
use Rattle.trace_text.specs.declared.fault.TraceFault.{TraceFault}
use Rattle.trace_text.specs.declared.fault.TraceFault.TheVariants as fault
use Rattle.trace_text.proofs.Readings.{fault_read, read_fault, read_script, script_read}
use Rattle.trace_text.proofs.trace.read_trace.Goals as goal

script_answered : (program : Program) (text : List ℕ) (result : Result Script TraceFault) → IsAnswer result (reading program text) → IfOk result (TraceText program text)
script_answered program text (Ok script) is = read_script program text script is
script_answered program text (Err found) is = tt

fault_answered : (program : Program) (text : List ℕ) (result : Result Script TraceFault) → IsAnswer result (reading program text) → IfErr result (Explains program text)
fault_answered program text (Ok script) is = tt
fault_answered program text (Err fault.OutOfMemory) is = tt
fault_answered program text (Err (fault.BadLine n)) is = read_fault program text (fault.BadLine n) is
fault_answered program text (Err (fault.Unknown n)) is = read_fault program text (fault.Unknown n) is
fault_answered program text (Err (fault.Order n)) is = read_fault program text (fault.Order n) is
fault_answered program text (Err (fault.TooMany n)) is = read_fault program text (fault.TooMany n) is
fault_answered program text (Err fault.NoLimit) is = read_fault program text fault.NoLimit is

pub returns-clause-script : goal.returns-clause-script
returns-clause-script c = script_answered c.args.checked.now c.args.text.now c.script_of.result c.script_of.ensures

pub returns-clause-fault : goal.returns-clause-fault
returns-clause-fault c = fault_answered c.args.checked.now c.args.text.now c.script_of.result c.script_of.ensures

pub returns-clause-scripts : goal.returns-clause-scripts
returns-clause-scripts c script is = subst (λ (answer : Result Script TraceFault). IsAnswer c.script_of.result answer) (script_read c.args.checked.now c.args.text.now script is) c.script_of.ensures

pub returns-clause-faults : goal.returns-clause-faults
returns-clause-faults c found is = subst (λ (answer : Result Script TraceFault). IsAnswer c.script_of.result answer) (fault_read c.args.checked.now c.args.text.now found is) c.script_of.ensures
