use Rattle.std.proofs.Common.{◌≡◌, ◌∙◌, Result, Ok, Err, sym, refl, inl, inr, ℕ, List}
use Rattle.serial_log.specs.declared.script.Script.{Script}
use Rattle.task_syntax.specs.declared.program.Program.{Program}
use Rattle.trace_text.specs.Answer.{IsAnswered}
use Rattle.trace_text.specs.Reading.{reading}
use Rattle.trace_text.specs.declared.fault.TraceFault.{TraceFault}
use Rattle.trace_text.proofs.Readings.{fault_read, read_fault, read_script, script_read}
use Rattle.trace_text.proofs.laws.each_text_has_one_answer.Goals as goal

answered : (program : Program) (text : List ℕ) (read : Result Script TraceFault) → reading program text ≡ read → IsAnswered program text
answered program text (Ok script) was = inl (script, read_script program text script was)
answered program text (Err fault) was = inr (fault, read_fault program text fault was)

pub returns-clause-one : goal.returns-clause-one
returns-clause-one c program text = answered program text (reading program text) refl

pub returns-clause-script : goal.returns-clause-script
returns-clause-script c program text script other one two =
    let both : Ok script ≡ Ok other = sym (script_read program text script one) ∙ script_read program text other two in cc

pub returns-clause-fault : goal.returns-clause-fault
returns-clause-fault c program text fault other one two =
    let both : Err fault ≡ Err other = sym (fault_read program text fault one) ∙ fault_read program text other two in cc

pub returns-clause-apart : goal.returns-clause-apart
returns-clause-apart c program text script fault one two =
    let both : Ok script ≡ Err fault = sym (script_read program text script one) ∙ fault_read program text fault two in cc
