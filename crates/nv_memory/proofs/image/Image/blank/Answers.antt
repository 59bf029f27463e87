use Rattle.std.proofs.Common.{rules, ◌≡◌, ℕ, List, length, ap, ◌∙◌}
use Rattle.nv_memory.specs.State.{state}
use Rattle.nv_memory.specs.Blank.{blank_words}
use Rattle.nv_memory.proofs.Blank.{blank_state}
use Rattle.nv_memory.proofs.image.Image.blank.Goals as goal

pub returns : goal.returns
returns c =
    let opening = c.args.opening.now in
    let items : c.in_ok-words.words.items ≡ blank_words c.args.k opening c.args.mode = grind rules in
    ap (λ (words : List ℕ). state (record { n = length opening; k = c.args.k; words = words })) items ∙ blank_state c.args.k opening c.args.mode
