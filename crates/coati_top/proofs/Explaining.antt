-- Why a command ended as it did, from the answer that was delivered.
use Rattle.std.proofs.Common.{◌≡◌, ℕ, ◌+◌, Bool, true, false, List, [], refl, sym, ap, ◌∙◌, subst, inl, inr}
use Rattle.std.specs.Prelude.{Option, None}
use Rattle.coati_io.specs.Ends.{ReadsWhole, ConsumesExactly}
use Rattle.coati_board.specs.Board.{Whole}
use Rattle.coati_top.specs.declared.command.Command.{Command}
use Rattle.coati_top.specs.declared.status.Status.{Status}
use Rattle.coati_top.specs.declared.status.Status.TheVariants.{Ok, WriteFault, TooLarge, OutOfMemory}
use Rattle.coati_top.specs.declared.refusal.Refusal.{Refusal}
use Rattle.coati_top.specs.declared.refusal.Refusal.TheVariants as refusal
use Rattle.coati_top.specs.Answer.{Answers}
use Rattle.coati_top.specs.Answer.Answers.{refused, served}
use Rattle.coati_top.specs.Refusal.{too_large_text}
use Rattle.coati_top.specs.Refused.{status_of}
use Rattle.coati_top.specs.Words.{reads}
use Rattle.coati_io.specs.Writing.{OutputEdge, WritesAll, WritesFront, WritesOrFails}
use Rattle.coati_top.specs.Call.{InputEdge, Answered, CommandEnded, HasRead, after_fault, Delivers, DeliversAnswer, Tells, input_limit}
use Rattle.coati_top.specs.Call.DeliversAnswer.{delivered, starved}
use Rattle.coati_top.specs.Call.Tells.{unwritten, written}
use Rattle.coati_top.specs.declared.served.Served.{Served}
use Rattle.coati_top.specs.Served.{served_board, served_text}

-- what a command has read, by whether it reads
pub read_whole : (command : Command) (input : InputEdge) (bytes : List ℕ) → reads command ≡ true
    → ReadsWhole input.old input.new input_limit bytes → HasRead (reads command) input bytes
read_whole command input bytes does whole = subst (λ (b : Bool). HasRead b input bytes) (sym does) whole

pub read_nothing : (command : Command) (input : InputEdge) → reads command ≡ false → HasRead (reads command) input []
read_nothing command input does = subst (λ (b : Bool). HasRead b input []) (sym does) refl

module _ (command : Command) (input : InputEdge) (output : OutputEdge) (board : Option Whole) where
  -- an explanation at the status that it is
  ended_at : (status known : Status) → status ≡ known → CommandEnded command known input output board → CommandEnded command status input output board
  ended_at status known is explains = subst (λ (s : Status). CommandEnded command s input output board) (sym is) explains

  module _ (bytes : List ℕ) (read : HasRead (reads command) input bytes) where
    -- the command's answer, with its text written so
    answered : (before known : Status) (text : List ℕ) (Writing : List ℕ → Type 0) → before ≡ known → Answers command bytes before text board
        → Writing text → Answered command known input board Writing
    answered before known text Writing is answers was_written = record {
      bytes = bytes;
      read = read;
      text = text;
      answers = subst (λ (s : Status). Answers command bytes s text board) is answers;
      written = was_written;
    }

    -- an input that was served
    ended_served : (status before : Status) (text : List ℕ) → before ≡ Ok → Answers command bytes before text board → Delivers before status output text
        → CommandEnded command status input output board
    ended_served status before text is answers (inl all) =
        ended_at status Ok (all.0 ∙ is) (answered before Ok text (WritesAll output) is answers all.1)
    ended_served status before text is answers (inr front) =
        ended_at status WriteFault (front.0 ∙ ap after_fault is) (answered before Ok text (WritesFront output) is answers front.1)

    -- an input that was refused: its status stays, whatever is written
    refused_ended : (why : Refusal) → Answered command (status_of why) input board (WritesOrFails output)
        → CommandEnded command (status_of why) input output board
    refused_ended (refusal.Source fault) answers = answers
    refused_ended (refusal.Trace fault) answers = answers
    refused_ended (refusal.BadPrint number) answers = answers
    refused_ended (refusal.Differs number) answers = answers

    status_stays : (why : Refusal) → after_fault (status_of why) ≡ status_of why
    status_stays (refusal.Source fault) = refl
    status_stays (refusal.Trace fault) = refl
    status_stays (refusal.BadPrint number) = refl
    status_stays (refusal.Differs number) = refl

    ended_refused : (status before : Status) (text : List ℕ) (why : Refusal) → before ≡ status_of why → Answers command bytes before text board
        → Delivers before status output text → CommandEnded command status input output board
    ended_refused status before text why is answers (inl all) =
        ended_at status (status_of why) (all.0 ∙ is)
        (refused_ended why (answered before (status_of why) text (WritesOrFails output) is answers (inl all.1)))
    ended_refused status before text why is answers (inr front) =
        ended_at status (status_of why) (front.0 ∙ ap after_fault is ∙ status_stays why)
        (refused_ended why (answered before (status_of why) text (WritesOrFails output) is answers (inr front.1)))

    ended_delivered : (status before : Status) (text : List ℕ) → Answers command bytes before text board → Delivers before status output text
        → CommandEnded command status input output board
    ended_delivered status before text (served shows is) delivers = ended_served status before text is (served shows is) delivers
    ended_delivered status before text (refused why cause is text_is none) delivers =
        ended_refused status before text why is (refused why cause is text_is none) delivers

    pub ended_answer : (status : Status) → DeliversAnswer command bytes status output board → CommandEnded command status input output board
    ended_answer status (delivered before text answers delivers) = ended_delivered status before text answers delivers
    ended_answer status (starved is nothing none) = ended_at status OutOfMemory is (nothing, none)

  pub ended_too_large : (status : Status) → reads command ≡ true → ConsumesExactly input.old input.new (input_limit + 1)
      → Delivers TooLarge status output too_large_text → board ≡ None → CommandEnded command status input output board
  ended_too_large status does consumed (inl all) none = ended_at status TooLarge all.0 (does, consumed, inl all.1, none)
  ended_too_large status does consumed (inr front) none = ended_at status TooLarge front.0 (does, consumed, inr front.1, none)

-- what a command gives is delivered as its answer
pub tells_answer : (command : Command) (bytes : List ℕ) (output : OutputEdge) (board : Option Whole) (before status : Status) (told : Served)
    → Answers command bytes before (served_text told) (served_board told) → Tells before told status output board
    → DeliversAnswer command bytes status output board
tells_answer command bytes output board before status told answers (written delivers is) =
    delivered before (served_text told) (subst (λ (b : Option Whole). Answers command bytes before (served_text told) b) (sym is) answers) delivers
tells_answer command bytes output board before status told answers (unwritten is nothing none) = starved is nothing none
