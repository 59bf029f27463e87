-- Why a command refuses an input, with which status, and what is said of it.
use Rattle.std.specs.Prelude.{ℕ, List}
use Rattle.coati_gen.specs.Generated.{generated}
use Rattle.coati_word.specs.declared.mode.Mode.{Mode}
use Rattle.task_syntax.specs.declared.program.Program.{Program}
use Rattle.trace_text.specs.Trace.{FirstFault}
use Rattle.trace_text.specs.declared.fault.TraceFault.{TraceFault}
use Rattle.coati_top.specs.declared.command.Command.{Command}
use Rattle.coati_top.specs.declared.command.Command.TheVariants.{Check, Dump, Run, Replay, Generate, Load}
use Rattle.coati_top.specs.declared.refusal.Refusal.{Refusal}
use Rattle.coati_top.specs.declared.refusal.Refusal.TheVariants as refusal
use Rattle.coati_top.specs.declared.refusal.Unserved.{Unserved}
use Rattle.coati_top.specs.declared.refusal.Unserved.TheVariants as unserved
use Rattle.coati_top.specs.declared.status.Status.{Status}
use Rattle.coati_top.specs.declared.status.Status.TheVariants as status
use Rattle.coati_top.specs.Divided.{second_part}
use Rattle.coati_top.specs.Refusal.{source_refusal}
use Rattle.coati_top.specs.Replayed.{HasBadPrint, HasDifference, bad_print, difference}
use Rattle.coati_top.specs.Source.{HasAccepted, IsSourceFault}
use Rattle.coati_top.specs.TraceRefusal.{trace_refusal}

-- how a call ends that refuses an input so
abbrev pub status_of : Refusal → Status
status_of (refusal.Source fault) = status.Refused
status_of (refusal.Trace fault) = status.BadTrace
status_of (refusal.BadPrint number) = status.BadTrace
status_of (refusal.Differs number) = status.Differs

-- the line that says what is wrong
abbrev pub text_of : Refusal → List ℕ
text_of (refusal.Source fault) = source_refusal fault
text_of (refusal.Trace fault) = trace_refusal fault
text_of (refusal.BadPrint number) = bad_print number
text_of (refusal.Differs number) = difference number

-- the input's program is accepted, but its second part is no trace
pub record HasFaultyTrace (input : List ℕ) (fault : TraceFault) : Type 0 where
  pub program : Program
  pub source : HasAccepted input program
  pub first : FirstFault program (second_part input) fault

-- what is wrong with an input of which the source alone is read
abbrev pub RefusesSource : List ℕ → Refusal → Type 0
RefusesSource input (refusal.Source fault) = IsSourceFault input fault
RefusesSource input _ = ⊥

-- what is wrong with an input that asks for a run
abbrev pub RefusesRun : List ℕ → Refusal → Type 0
RefusesRun input (refusal.Source fault) = IsSourceFault input fault
RefusesRun input (refusal.Trace fault) = HasFaultyTrace input fault
RefusesRun input _ = ⊥

-- what is wrong with an input whose second part is to be serial
abbrev pub RefusesReplay : Mode → List ℕ → Refusal → Type 0
RefusesReplay mode input (refusal.Source fault) = IsSourceFault input fault
RefusesReplay mode input (refusal.Trace fault) = ⊥
RefusesReplay mode input (refusal.BadPrint number) = HasBadPrint input number
RefusesReplay mode input (refusal.Differs number) = HasDifference mode input number

-- what a command refuses an input for; in `load` the generated input stands in its place
abbrev pub Refuses : Command → List ℕ → Refusal → Type 0
Refuses Check input why = RefusesSource input why
Refuses Dump input why = RefusesSource input why
Refuses (Run mode) input why = RefusesRun input why
Refuses (Replay mode) input why = RefusesReplay mode input why
Refuses (Load mode rounds) input why = RefusesRun (generated rounds) why
Refuses (Generate rounds) input why = ⊥

-- an input is not served for such a refusal, or for want of memory
abbrev pub IsUnserved : (Refusal → Type 0) → Unserved → Type 0
IsUnserved IsWrong (unserved.Refused why) = IsWrong why
IsUnserved IsWrong unserved.OutOfMemory = Unit {0}
