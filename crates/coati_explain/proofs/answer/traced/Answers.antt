use Rattle.std.proofs.Common.{◌≡◌, ◌++◌, ℕ, List, [], refl}
use Rattle.coati_explain.specs.Answer.IsExplanation.{traced}
use Rattle.coati_explain.proofs.answer.traced.Goals as goal

-- one text behind another
joined : (start first last accepted script : List ℕ) → start ≡ [] → first ≡ start ++ accepted → last ≡ first ++ script → last ≡ accepted ++ script
joined start first last accepted script none one two = rw (two, one, none) refl

pub returns : goal.returns
returns c =
    traced c.args.checked.now c.args.script.now c.requires.source c.requires.trace c.requires.script refl
    (joined _ _ _ _ _ c.new-text.ensures.items c.in_ok-put_accepted.ensures c.in_ok-put_script.ensures)
