-- What is answered to an input: what is wrong with its source or, where it has one, with its
-- trace; or that it is accepted.
use Rattle.std.specs.Prelude.{◌≡◌, ℕ, Bool, true, false, List, ◌++◌, length, nat_lt}
use Rattle.serial_log.specs.declared.script.Script.{Script}
use Rattle.task_syntax.specs.declared.program.Program.{Program}
use Rattle.trace_text.specs.Trace.{FirstFault, TraceText}
use Rattle.trace_text.specs.declared.fault.TraceFault.{TraceFault}
use Rattle.coati_top.specs.Divided.{second_part, source_part}
use Rattle.coati_top.specs.Source.{HasAccepted, IsSourceFault}
use Rattle.coati_top.specs.declared.source_fault.SourceFault.{SourceFault}
use Rattle.coati_top.specs.declared.status.Status.{Status}
use Rattle.coati_top.specs.declared.status.Status.TheVariants.{Ok, BadTrace, Refused}
use Rattle.coati_explain.specs.Accepted.{accepted_text, script_text}
use Rattle.coati_explain.specs.Messages.{IsExplained}
use Rattle.coati_explain.specs.Trace.{trace_explanation}

-- a line `%%` ends the source, so that a trace stands behind it
abbrev pub has_trace : List ℕ → Bool
has_trace input = nat_lt (length (source_part input)) (length input)

-- the answer to an input: its status, and its text
pub data IsExplanation (input : List ℕ) (status : Status) (text : List ℕ) : Type 0 where
  refused : (fault : SourceFault) → IsSourceFault input fault
      → status ≡ Refused → IsExplained (source_part input) fault text →
      IsExplanation input status text
  untraced : (program : Program) (fault : TraceFault) → HasAccepted input program →
      has_trace input ≡ true → FirstFault program (second_part input) fault
      → status ≡ BadTrace → text ≡ trace_explanation input fault → IsExplanation input status text
  accepted : (program : Program) → HasAccepted input program → has_trace input ≡ false
      → status ≡ Ok → text ≡ accepted_text program → IsExplanation input status text
  traced : (program : Program) (script : Script) → HasAccepted input program →
      has_trace input ≡ true → TraceText program (second_part input) script
      → status ≡ Ok → text ≡ accepted_text program ++ script_text script →
      IsExplanation input status text
