use Rattle.std.proofs.Common.{◌≢◌, ◌+◌, List, ℕ, refl, arith, length-drop}
use Rattle.task_syntax.specs.declared.program.Program.{Program}
use Rattle.trace_text.specs.Answer.{Explains}
use Rattle.trace_text.specs.Trace.{FirstFault}
use Rattle.trace_text.specs.declared.fault.TraceFault.{TraceFault}
use Rattle.trace_text.specs.declared.fault.TraceFault.TheVariants as fault
use Rattle.coati_top.specs.Divided.{second_part, source_length}
use Rattle.coati_explain.specs.Answer.IsExplanation.{untraced}
use Rattle.coati_explain.proofs.TraceLines.{told_line-within}
use Rattle.coati_explain.proofs.answer.untraced.Goals as goal

-- a fault that is told is the first of the trace
first : (program : Program) (trace : List ℕ) (found : TraceFault) → found ≢ fault.OutOfMemory → Explains program trace found → FirstFault program trace found
first program trace (fault.BadLine number) told why = why
first program trace (fault.Unknown number) told why = why
first program trace (fault.Order number) told why = why
first program trace (fault.TooMany number) told why = why
first program trace fault.NoLimit told why = why
first program trace fault.OutOfMemory told why = absurd (told refl)

pub trace_text_of-requires-clause-told : goal.trace_text_of-requires-clause-told
trace_text_of-requires-clause-told c =
    omega (arith, told_line-within c.args.checked.now (second_part c.args.input.now) c.args.fault c.requires.fault, length-drop (source_length c.args.input.now + 3) c.args.input.now)

pub returns : goal.returns
returns c =
    untraced c.args.checked.now c.args.fault c.requires.source c.requires.trace
    (first c.args.checked.now (second_part c.args.input.now) c.args.fault c.in_ok-text.ensures.told c.requires.fault) refl c.in_ok-text.ensures.text
