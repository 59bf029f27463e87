use Rattle.std.proofs.Common.{ℕ, List, [], ◌∷◌, ◌++◌, ap, ◌∙◌}
use Rattle.word_code.specs.Code.{with_body}
use Rattle.word_code.proofs.Pieces.{push_rises, push_pieces}
use Rattle.word_code.proofs.code.Code.push.Goals as goal

pub invariant_of-self-2 : goal.invariant_of-self-2
invariant_of-self-2 c =
    push_rises c.self.inside.ends.items c.self.inside.words.items c.args.body.now c.push_reserved.new.self.items c.append.new.out.items c.len.result c.self.invariant
    (c.push_reserved.ensures.items ∙ ap (λ (ends : List ℕ). ends ++ c.len.result ∷ []) c.reserve_one.ensures.same) c.in_ok-append.ensures.ok (c.len.ensures ∙ c.append.new.out.ok.0)

pub returns-clause-ok : goal.returns-clause-ok
returns-clause-ok c =
    ap (λ (bodies : List (List ℕ)). record { tasks = c.self.inside.tasks; bodies = bodies })
    (push_pieces c.self.inside.ends.items c.self.inside.words.items c.args.body.now c.push_reserved.new.self.items c.append.new.out.items c.len.result c.self.invariant
    (c.push_reserved.ensures.items ∙ ap (λ (ends : List ℕ). ends ++ c.len.result ∷ []) c.reserve_one.ensures.same) c.in_ok-append.ensures.ok (c.len.ensures ∙ c.append.new.out.ok.0))
    ∙ ap (λ code. with_body code c.args.body.now) c.self.view_is
