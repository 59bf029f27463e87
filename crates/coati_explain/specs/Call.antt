-- What a call did at its two ends, and why it ended with its status.
use Rattle.std.specs.Prelude.{◌≡◌, ℕ, ◌+◌, List, ◌++◌, codes}
use Rattle.coati_io.specs.Ends.{ConsumesExactly, ReadsWhole}
use Rattle.coati_io.specs.Writing.{OutputEdge, WritesAll, WritesFront, WritesNothing, WritesOrFails}
use Rattle.coati_top.specs.Call.{Delivers, InputEdge, ReadingFailed, input_limit}
use Rattle.coati_top.specs.declared.status.Status.{Status}
use Rattle.coati_top.specs.declared.status.Status.TheVariants.{Ok, Usage, ReadFault, WriteFault, TooLarge, Refused, BadTrace, Differs, OutOfMemory}
use Rattle.coati_explain.specs.Answer.{IsExplanation}

abbrev pub too_long_text : List ℕ
too_long_text =
    codes "the input is longer than 262144 bytes, "
    ++ codes "which are the most that are read (input too large)\n"

-- the input was read to its end and is within the limit, its answer has this status, and the text
-- was written in this way
pub record HasExplanation (status : Status) (input : InputEdge) (Writing : List ℕ → Type 0)
    : Type 0 where
  pub bytes : List ℕ
  pub read : ReadsWhole input.old input.new input_limit bytes
  pub text : List ℕ
  pub answers : IsExplanation bytes status text
  pub written : Writing text

-- why the call ended with this status
abbrev pub ExplainEnded : Status → InputEdge → OutputEdge → Type 0
ExplainEnded Ok input output = HasExplanation Ok input (WritesAll output)
ExplainEnded Usage input output = ⊥
ExplainEnded ReadFault input output = ReadingFailed input × WritesNothing output
ExplainEnded WriteFault input output = HasExplanation Ok input (WritesFront output)
ExplainEnded TooLarge input output = ConsumesExactly input.old input.new (input_limit + 1)
    × WritesOrFails output too_long_text
ExplainEnded Refused input output = HasExplanation Refused input (WritesOrFails output)
ExplainEnded BadTrace input output = HasExplanation BadTrace input (WritesOrFails output)
ExplainEnded Differs input output = ⊥
ExplainEnded OutOfMemory input output = WritesNothing output

-- the answer to these bytes was delivered, or memory ran out before anything was written
pub data DeliversExplanation (bytes : List ℕ) (status : Status) (output : OutputEdge)
    : Type 0 where
  delivered : (before : Status) (text : List ℕ) → IsExplanation bytes before text →
      Delivers before status output text
      → DeliversExplanation bytes status output
  starved : status ≡ OutOfMemory → WritesNothing output → DeliversExplanation bytes status output
