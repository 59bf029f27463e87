use Rattle.std.proofs.Common.{ℕ, List, ◌∷◌, length, take, slice_index_or, sym, ap, ◌∙◌, arith}
use Rattle.std.specs.List.{concat}
use Rattle.word_code.proofs.Pieces.{start_is, number_below}
use Rattle.word_code.proofs.code.Code.entry.Goals as goal

pub start_at-requires : goal.start_at-requires
start_at-requires c =
    let inside = number_below _ _ _ _ c.self.view_is c.number.ensures c.requires.exists in
    omega (arith, inside, ap length c.deref.ensures.value)

pub returns : goal.returns
returns c =
    let inside = number_below _ _ _ _ c.self.view_is c.number.ensures c.requires.exists in
    let number = c.number.result in
    c.start_at.ensures
    ∙ ap (λ (ends : List ℕ). slice_index_or (0 ∷ ends) number 0) c.deref.ensures.value
    ∙ sym (start_is c.self.inside.ends.items c.self.inside.words.items c.self.invariant number inside)
    ∙ ap (λ view. length (concat (take number view.bodies))) c.self.view_is
    ∙ ap (λ (k : ℕ). length (concat (take k c.args.self.now.bodies))) c.number.ensures
