use Rattle.device_pace.proofs.Raised.{raise_paces}
use Rattle.device_pace.proofs.PacedSteps.{closing_paces}
use Rattle.device_pace.proofs.laws.raises_keep_pace.Goals as goal

pub returns : goal.returns
returns c = record {
  raises = λ terms periods postings device old new answer fits paced raised.
      raise_paces terms old paced periods postings device new answer fits raised;
  closing = closing_paces;
}
