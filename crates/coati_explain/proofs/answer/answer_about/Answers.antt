use Rattle.std.proofs.Common.{◌≡◌, ◌++◌, ◌∙◌, ℕ, List, [], refl, sym}
use Rattle.coati_explain.specs.Answer.IsExplanation.{accepted}
use Rattle.coati_explain.proofs.answer.answer_about.Goals as goal

-- a text in front of which nothing stands
alone : (start last text : List ℕ) → start ≡ [] → last ≡ start ++ text → last ≡ text
alone start last text none is = rw (is, none) refl

pub returns : goal.returns
returns c =
    accepted c.args.checked.now c.requires.source (sym c.has_trace.ensures ∙ c.if-has_trace.false) refl
    (alone _ _ _ c.new-text.ensures.items c.in_ok-put_accepted.ensures)
