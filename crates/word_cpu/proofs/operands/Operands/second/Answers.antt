use Rattle.std.proofs.Common.{◌≡◌, ◌-◌, ◌<◌, List, ℕ, length, ap, ◌∙◌, arith}
use Rattle.std.specs.Prelude.{slice_index_or, reverse}
use Rattle.std.proofs.lemmas.List.{length-reverse}
use Rattle.word_code.specs.Machine.{top, below}
use Rattle.word_cpu.proofs.Stacks.{second_last}
use Rattle.word_cpu.proofs.operands.Operands.second.Goals as goal

pub returns : goal.returns
returns c =
    let words = c.self.inside.words.items in
    let same : length (reverse words) ≡ length c.args.self.now = ap length c.self.view_is in
    let there : 1 < length words = omega (arith, c.requires, same, length-reverse words) in
    ap (λ (w : List ℕ). slice_index_or w (c.len.result - 2) 0) c.deref.ensures.0
    ∙ ap (λ (n : ℕ). slice_index_or words (n - 2) 0) c.len.ensures.value
    ∙ second_last words there
    ∙ ap (λ (w : List ℕ). top (below w)) c.self.view_is
