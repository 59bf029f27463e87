-- Why a call ended as it did, from the answer that was delivered.
use Rattle.std.proofs.Common.{◌≡◌, ℕ, ◌+◌, List, sym, ap, ◌∙◌, subst, inl, inr}
use Rattle.coati_io.specs.Ends.{ReadsWhole, ConsumesExactly}
use Rattle.coati_io.specs.Writing.{OutputEdge, WritesAll, WritesFront, WritesOrFails}
use Rattle.coati_top.specs.Call.{Delivers, InputEdge, after_fault, input_limit}
use Rattle.coati_top.specs.declared.status.Status.{Status}
use Rattle.coati_top.specs.declared.status.Status.TheVariants.{Ok, WriteFault, TooLarge, BadTrace, Refused, OutOfMemory}
use Rattle.coati_explain.specs.Answer.{IsExplanation}
use Rattle.coati_explain.specs.Answer.IsExplanation.{refused, untraced, accepted, traced}
use Rattle.coati_explain.specs.Call.{HasExplanation, DeliversExplanation, ExplainEnded, too_long_text}
use Rattle.coati_explain.specs.Call.DeliversExplanation.{delivered, starved}

module _ (input : InputEdge) (output : OutputEdge) where
  -- an explanation at the status that it is
  ended_at : (status known : Status) → status ≡ known → ExplainEnded known input output → ExplainEnded status input output
  ended_at status known is explained = subst (λ (s : Status). ExplainEnded s input output) (sym is) explained

  module _ (bytes : List ℕ) (read : ReadsWhole input.old input.new input_limit bytes) where
    -- the answer, with its text written so
    answered : (before known : Status) (text : List ℕ) (Writing : List ℕ → Type 0) → before ≡ known → IsExplanation bytes before text
        → Writing text → HasExplanation known input Writing
    answered before known text Writing is answers written = record {
      bytes = bytes;
      read = read;
      text = text;
      answers = subst (λ (s : Status). IsExplanation bytes s text) is answers;
      written = written;
    }

    -- an answer that is no refusal was delivered
    delivered_well : (status before : Status) (text : List ℕ) → before ≡ Ok → IsExplanation bytes before text → Delivers before status output text
        → ExplainEnded status input output
    delivered_well status before text is answers (inl all) =
        ended_at status Ok (all.0 ∙ is) (answered before Ok text (WritesAll output) is answers all.1)
    delivered_well status before text is answers (inr front) =
        ended_at status WriteFault (front.0 ∙ ap after_fault is) (answered before Ok text (WritesFront output) is answers front.1)

    ended_delivered : (status before : Status) (text : List ℕ) → IsExplanation bytes before text → Delivers before status output text
        → ExplainEnded status input output
    ended_delivered status before text (refused fault cause is told) (inl all) =
        ended_at status Refused (all.0 ∙ is) (answered before Refused text (WritesOrFails output) is (refused fault cause is told) (inl all.1))
    ended_delivered status before text (refused fault cause is told) (inr front) =
        ended_at status Refused (front.0 ∙ ap after_fault is) (answered before Refused text (WritesOrFails output) is (refused fault cause is told) (inr front.1))
    ended_delivered status before text (untraced program fault source trace first is told) (inl all) =
        ended_at status BadTrace (all.0 ∙ is) (answered before BadTrace text (WritesOrFails output) is (untraced program fault source trace first is told) (inl all.1))
    ended_delivered status before text (untraced program fault source trace first is told) (inr front) =
        ended_at status BadTrace (front.0 ∙ ap after_fault is) (answered before BadTrace text (WritesOrFails output) is (untraced program fault source trace first is told) (inr front.1))
    ended_delivered status before text (accepted program source trace is told) delivers =
        delivered_well status before text is (accepted program source trace is told) delivers
    ended_delivered status before text (traced program script source trace read is told) delivers =
        delivered_well status before text is (traced program script source trace read is told) delivers

    pub ended_answer : (status : Status) → DeliversExplanation bytes status output → ExplainEnded status input output
    ended_answer status (delivered before text answers delivers) = ended_delivered status before text answers delivers
    ended_answer status (starved is nothing) = ended_at status OutOfMemory is nothing

  pub ended_too_large : (status : Status) → ConsumesExactly input.old input.new (input_limit + 1)
      → Delivers TooLarge status output too_long_text → ExplainEnded status input output
  ended_too_large status consumed (inl all) = ended_at status TooLarge all.0 (consumed, inl all.1)
  ended_too_large status consumed (inr front) = ended_at status TooLarge front.0 (consumed, inr front.1)
