use Rattle.std.proofs.Common.{◌≡◌, ◌∙◌, rules, sym, true}
use Rattle.booth.proofs.Keeping.{is_ended}
use Rattle.booth.proofs.booth.Booth.settle.Given.{Over}
use Rattle.booth.proofs.booth.Booth.settle.Goals as goal
use Rattle.booth.proofs.booth.Booth.settle.Goals.{After-drop-stepped}

-- where the seat was told of the end, the booth has booked it
ended : (g : Over) (c : After-drop-stepped g) → c.args.turns.ends ≡ 1 →
    c.self.inside.ended ≡ true
ended g c one =
    let all : c.args.turns.ends ≡ c.self.inside.ends.total = search rules in
    is_ended c.self.inside.ended c.self.inside.ends.total c.self.invariant.0.ends (sym all ∙ one)

pub returns-clause-over : goal.returns-clause-over
returns-clause-over g c = λ one.
    c.self.invariant.0.over (ended g (goal.at.returns-clause-over g c).After-drop-stepped one)

pub returns-clause-none : goal.returns-clause-none
returns-clause-none g c = λ one.
    c.self.invariant.0.none_left (ended g (goal.at.returns-clause-none g c).After-drop-stepped one)
