use Rattle.std.proofs.Common.{sym, ap, ◌∙◌}
use Rattle.std.specs.List.{concat}
use Rattle.word_code.proofs.Pieces.{all_words}
use Rattle.word_code.proofs.code.Code.words.Goals as goal

pub returns : goal.returns
returns c =
    c.as_slice.ensures.value
    ∙ sym (all_words c.self.inside.ends.items c.self.inside.words.items c.self.invariant)
    ∙ ap (λ view. concat view.bodies) c.self.view_is
