use Rattle.std.proofs.Common.{◌≡◌, ◌++◌, List, ℕ, length, drop, replicate, ap, ◌∙◌}
use Rattle.std.proofs.lemmas.List.{drop-replicate}
use Rattle.word_cpu.proofs.locals.Locals.new.Goals as goal

pub returns : goal.returns
returns c =
    let params = c.args.params.now in
    let made : c.from.result.items ≡ c.copy_from_slice.new.self ++ drop (length params) (replicate 32 0) = c.from.ensures.0 in
    let front : c.copy_from_slice.new.self ≡ params = c.copy_from_slice.ensures.after in
    made
    ∙ ap (λ (xs : List ℕ). xs ++ drop (length params) (replicate 32 0)) front
    ∙ ap (λ (rest : List ℕ). params ++ rest) (drop-replicate (length params) 32 0)
