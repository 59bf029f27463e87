use Rattle.std.proofs.Common.{◌-◌, List, ℕ, length, take, drop, ap, ◌∙◌}
use Rattle.std.specs.Prelude.{reverse}
use Rattle.word_cpu.proofs.Stacks.{last_operands}
use Rattle.word_cpu.proofs.operands.Operands.message.Goals as goal

pub returns : goal.returns
returns c =
    let words = c.self.inside.words.items in
    let count = c.args.count in
    c.new.ensures
    ∙ ap (λ (w : List ℕ). take (length w - (c.len.result - count)) (drop (c.len.result - count) w)) c.deref.ensures.0
    ∙ ap (λ (n : ℕ). take (length words - (n - count)) (drop (n - count) words)) c.len.ensures.value
    ∙ last_operands count words
    ∙ ap (λ (w : List ℕ). reverse (take count w)) c.self.view_is
