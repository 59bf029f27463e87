-- What a command answers to an input: what it shows where it serves the input, and else what is
-- wrong with it.
use Rattle.std.specs.Prelude.{◌≡◌, ℕ, List, Option, Some, None}
use Rattle.coati_word.specs.declared.mode.Mode.{Mode}
use Rattle.task_syntax.specs.declared.program.Program.{Program}
use Rattle.serial_log.specs.declared.script.Script.{Script}
use Rattle.coati_board.specs.Board.{Whole}
use Rattle.codegen.specs.Listing.{listing}
use Rattle.coati_gen.specs.Generated.{generated}
use Rattle.trace_text.specs.Trace.{TraceText}
use Rattle.coati_top.specs.declared.command.Command.{Command}
use Rattle.coati_top.specs.declared.command.Command.TheVariants.{Check, Dump, Run, Replay, Generate, Load}
use Rattle.coati_top.specs.declared.refusal.Refusal.{Refusal}
use Rattle.coati_top.specs.declared.status.Status.{Status}
use Rattle.coati_top.specs.declared.status.Status.TheVariants.{Ok}
use Rattle.coati_top.specs.CheckText.{check_text}
use Rattle.coati_top.specs.Divided.{second_part}
use Rattle.trace_out.specs.BoardText.{board_text}
use Rattle.coati_top.specs.Loaded.{load_text}
use Rattle.coati_top.specs.Refused.{Refuses, status_of, text_of}
use Rattle.coati_top.specs.Replayed.{HasSerialPrint, serial_text}
use Rattle.coati_top.specs.Runs.{IsRun}
use Rattle.coati_top.specs.Source.{HasAccepted}

-- the input asks for a run of this program by this script: its source is the program, which is
-- accepted, and its trace is the script
pub record AsksFor (input : List ℕ) (program : Program) (script : Script) : Type 0 where
  pub source : HasAccepted input program
  pub trace : TraceText program (second_part input) script

-- the source is an accepted program, and the text is what is shown of it
pub record ShowsProgram (shown : Program → List ℕ) (input text : List ℕ)
    (board : Option Whole) : Type 0 where
  pub program : Program
  pub source : HasAccepted input program
  pub text_is : text ≡ shown program
  pub no_run : board ≡ None

-- the run that the input asks for was made in this mode, and the text is that of its board
pub record ShowsRun (mode : Mode) (input text : List ℕ) (board : Option Whole) : Type 0 where
  pub run : Whole
  pub asked : AsksFor input run.program run.script
  pub made : IsRun mode run
  pub text_is : text ≡ board_text run
  pub kept : board ≡ Some run

-- the printed text of the input is serial and legal for the mode, which is said
pub record ShowsSerial (mode : Mode) (input text : List ℕ) (board : Option Whole) : Type 0 where
  pub print : HasSerialPrint mode input
  pub text_is : text ≡ serial_text
  pub no_run : board ≡ None

-- the run that the generated input of so many rounds asks for was made in this mode, and the text is
-- its summary
pub record ShowsLoad (mode : Mode) (rounds : ℕ) (text : List ℕ) (board : Option Whole)
    : Type 0 where
  pub run : Whole
  pub asked : AsksFor (generated rounds) run.program run.script
  pub made : IsRun mode run
  pub text_is : text ≡ load_text mode rounds run
  pub kept : board ≡ Some run

-- what a command gives to an input that it serves: its text, and the board of the run where one
-- was made
abbrev pub Serves : Command → List ℕ → List ℕ → Option Whole → Type 0
Serves Check input text board = ShowsProgram check_text input text board
Serves Dump input text board = ShowsProgram listing input text board
Serves (Run mode) input text board = ShowsRun mode input text board
Serves (Replay mode) input text board = ShowsSerial mode input text board
Serves (Generate rounds) input text board = (text ≡ generated rounds) × (board ≡ None)
Serves (Load mode rounds) input text board = ShowsLoad mode rounds text board

-- the answer of a command to an input: its status, its text, and the board of the run where one
-- was made
pub data Answers (command : Command) (input : List ℕ) (status : Status) (text : List ℕ)
    (board : Option Whole) : Type 0 where
  served : Serves command input text board → status ≡ Ok → Answers command input status text board
  refused : (refusal : Refusal) → Refuses command input refusal
      → status ≡ status_of refusal → text ≡ text_of refusal → board ≡ None →
      Answers command input status text board
