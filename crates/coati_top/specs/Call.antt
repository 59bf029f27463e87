-- What a call of the program did at its two ends, and why it ended with its status.
use Rattle.std.specs.Prelude.{◌≡◌, ◌⊎◌, ℕ, ◌+◌, Bool, true, false, List, [], Option, Some, None}
use Rattle.coati_io.specs.Causes.{Rose}
use Rattle.coati_io.specs.Ends.{ReadsWhole, ConsumesExactly}
use Rattle.coati_io.specs.Writing.{OutputEdge, WritesAll, WritesFront, WritesNothing, WritesOrFails}
use Rattle.coati_top.specs.declared.command.Command.{Command}
use Rattle.coati_top.specs.declared.status.Status.{Status}
use Rattle.coati_top.specs.declared.status.Status.TheVariants.{Ok, Usage, ReadFault, WriteFault, TooLarge, OutOfMemory}
use Rattle.coati_board.specs.Board.{Whole}
use Rattle.coati_top.specs.Answer.{Answers}
use Rattle.coati_top.specs.Refusal.{usage_text, too_large_text}
use Rattle.coati_top.specs.declared.served.Served.{Served}
use Rattle.coati_top.specs.Served.{served_board, served_text}
use Rattle.coati_top.specs.Words.{reads}

-- the input of a call: the bytes still to come, where it tells of them, and its count of faults,
-- before and after
pub record InputEdge : Type 0 where
  pub old : Option (List ℕ)
  pub new : Option (List ℕ)
  pub before : ℕ
  pub after : ℕ

abbrev pub input_edge : {S : Type 0} → (S → Option (List ℕ)) → (S → ℕ) → S → S → InputEdge
input_edge left faults old new = record {
  old = left old;
  new = left new;
  before = faults old;
  after = faults new;
}

-- the greatest input, in bytes
abbrev pub input_limit : ℕ
input_limit = 262144

-- the input's count of faults rose
abbrev pub ReadingFailed : InputEdge → Type 0
ReadingFailed input = Rose input.before input.after

-- nothing was read, and no fault was counted
pub record ReadsNothing (input : InputEdge) : Type 0 where
  pub nothing : input.new ≡ input.old
  pub steady : input.after ≡ input.before

-- a command that reads has read these bytes, which are all and within the limit; another has none
abbrev pub HasRead : Bool → InputEdge → List ℕ → Type 0
HasRead true input bytes = ReadsWhole input.old input.new input_limit bytes
HasRead false input bytes = bytes ≡ []

-- the command's answer to what it has read has this status and this board, and its text was
-- written in this way
pub record Answered (command : Command) (status : Status) (input : InputEdge)
    (board : Option Whole) (Writing : List ℕ → Type 0) : Type 0 where
  pub bytes : List ℕ
  pub read : HasRead (reads command) input bytes
  pub text : List ℕ
  pub answers : Answers command bytes status text board
  pub written : Writing text

-- why a command ended with this status
abbrev pub CommandEnded : Command → Status → InputEdge → OutputEdge → Option Whole → Type 0
CommandEnded command Ok input output board = Answered command Ok input board (WritesAll output)
CommandEnded command Usage input output board = ⊥
CommandEnded command ReadFault input output board =
    (reads command ≡ true) × ReadingFailed input × WritesNothing output × (board ≡ None)
CommandEnded command WriteFault input output board =
    Answered command Ok input board (WritesFront output)
CommandEnded command TooLarge input output board =
    (reads command ≡ true) × ConsumesExactly input.old input.new (input_limit + 1)
    × WritesOrFails output too_large_text × (board ≡ None)
CommandEnded command OutOfMemory input output board = WritesNothing output × (board ≡ None)
CommandEnded command status input output board =
    Answered command status input board (WritesOrFails output)

-- why a call ended with this status: the words name no command, or the command's own reason
abbrev pub CallEnded : Option Command → Status → InputEdge → OutputEdge → Option Whole → Type 0
CallEnded None status input output board =
    (status ≡ Usage) × WritesOrFails output usage_text × (board ≡ None)
CallEnded (Some command) status input output board = CommandEnded command status input output board

-- words that name no command leave the input as it was, and so does a command that does not read
abbrev pub LeavesInput : Option Command → InputEdge → Type 0
LeavesInput None input = ReadsNothing input
LeavesInput (Some command) input = reads command ≡ false → ReadsNothing input

-- what a status becomes where its text was not written whole
abbrev pub after_fault : Status → Status
after_fault Ok = WriteFault
after_fault status = status

-- a text was written, and its status stands; or the sink failed
abbrev pub Delivers : Status → Status → OutputEdge → List ℕ → Type 0
Delivers status result output text =
    ((result ≡ status) × WritesAll output text)
    ⊎ ((result ≡ after_fault status) × WritesFront output text)

-- what a command gives was delivered, or memory ran out before anything was written
pub data Tells (before : Status) (told : Served) (status : Status) (output : OutputEdge)
    (board : Option Whole) : Type 0 where
  written : Delivers before status output (served_text told) → board ≡ served_board told →
      Tells before told status output board
  unwritten : status ≡ OutOfMemory → WritesNothing output → board ≡ None →
      Tells before told status output board

-- a command's answer to these bytes was delivered, or memory ran out before anything was written
pub data DeliversAnswer (command : Command) (bytes : List ℕ) (status : Status)
    (output : OutputEdge) (board : Option Whole) : Type 0 where
  delivered : (before : Status) (text : List ℕ) → Answers command bytes before text board →
      Delivers before status output text
      → DeliversAnswer command bytes status output board
  starved : status ≡ OutOfMemory → WritesNothing output → board ≡ None →
      DeliversAnswer command bytes status output board
