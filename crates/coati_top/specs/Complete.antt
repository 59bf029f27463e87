-- Where a call has to succeed: a command that serves the input of a call whose ends do not fail.
use Rattle.std.specs.Prelude.{◌≡◌, ◌⊎◌, ◌≢◌, ◌≤◌, ℕ, Bool, true, false, List, [], length, Option, Some, None}
use Rattle.task_syntax.specs.declared.program.Program.{Program}
use Rattle.serial_log.specs.declared.script.Script.{Script}
use Rattle.coati_gen.specs.Generated.{generated}
use Rattle.coati_top.specs.Answer.{AsksFor}
use Rattle.coati_io.specs.Writing.{OutputEdge, WritingFailed}
use Rattle.coati_top.specs.Call.{InputEdge, ReadingFailed, input_limit}
use Rattle.coati_top.specs.declared.command.Command.{Command}
use Rattle.coati_top.specs.declared.command.Command.TheVariants.{Check, Dump, Run, Replay, Generate, Load}
use Rattle.coati_top.specs.declared.refusal.Refusal.{Refusal}
use Rattle.coati_top.specs.Refused.{Refuses, status_of}
use Rattle.coati_top.specs.Replayed.{HasSerialPrint}
use Rattle.coati_top.specs.Source.{HasAccepted}
use Rattle.coati_top.specs.Words.{reads}
use Rattle.coati_top.specs.declared.status.Status.{Status}
use Rattle.coati_top.specs.declared.status.Status.TheVariants.{Ok, ReadFault, OutOfMemory}

-- the input told of these bytes, which are within the limit, and its count of faults did not rise
pub record Gives (input : InputEdge) (bytes : List ℕ) : Type 0 where
  pub told : input.old ≡ Some bytes
  pub fits : length bytes ≤ input_limit
  pub read : ReadingFailed input → ⊥

-- a command that reads is given the bytes of its input, and another none
abbrev pub IsGiven : Bool → InputEdge → List ℕ → Type 0
IsGiven true input bytes = Gives input bytes
IsGiven false input bytes = bytes ≡ []

-- the command was given these bytes, and no write failed
pub record IsUndisturbed (command : Command) (input : InputEdge) (output : OutputEdge)
    (bytes : List ℕ) : Type 0 where
  pub given : IsGiven (reads command) input bytes
  pub written : WritingFailed output → ⊥

-- the source is an accepted program
pub record IsMeasurable (bytes : List ℕ) : Type 0 where
  pub program : Program
  pub source : HasAccepted bytes program

-- the source is an accepted program, and the second part is a trace
pub record IsRunnable (bytes : List ℕ) : Type 0 where
  pub program : Program
  pub script : Script
  pub asked : AsksFor bytes program script

-- an input of these bytes has what the command asks of it; in `load` the generated input stands in
-- their place
abbrev pub CanServe : Command → List ℕ → Type 0
CanServe Check bytes = IsMeasurable bytes
CanServe Dump bytes = IsMeasurable bytes
CanServe (Run mode) bytes = IsRunnable bytes
CanServe (Replay mode) bytes = HasSerialPrint mode bytes
CanServe (Generate rounds) bytes = Unit {0}
CanServe (Load mode rounds) bytes = IsRunnable (generated rounds)

-- the call ends so, unless memory ran out
abbrev pub EndsUnlessStarved : Status → Status → Type 0
EndsUnlessStarved wanted status = (status ≡ wanted) ⊎ (status ≡ OutOfMemory)

-- an undisturbed call succeeds on an input that the command can serve, and tells what is wrong
-- with one that it refuses
pub record EndsByInput (command : Command) (status : Status) (bytes : List ℕ) : Type 0 where
  pub served : CanServe command bytes → EndsUnlessStarved Ok status
  pub refused : (why : Refusal) → Refuses command bytes why →
      EndsUnlessStarved (status_of why) status

abbrev pub Completes : Option Command → Status → InputEdge → OutputEdge → Type 0
Completes None status input output = Unit {0}
Completes (Some command) status input output =
    (bytes : List ℕ) → IsUndisturbed command input output bytes → EndsByInput command status bytes

-- an input of which no read fails counts no fault, and a call does not end with one
pub record IsSteadyInput (status : Status) (input : InputEdge) : Type 0 where
  pub same : input.after ≡ input.before
  pub no_fault : status ≢ ReadFault
