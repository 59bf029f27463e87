use Rattle.std.proofs.Common.{◌≡◌, ◌<◌, ◌+◌, rules}
use Rattle.coati_board.specs.Board.{IsOver}
use Rattle.booth.proofs.Keeping.{Stepped, step_keeps}
use Rattle.booth.proofs.booth.Booth.turn.Goals as goal

pub invariant_of-self-2 : goal.invariant_of-self-2
invariant_of-self-2 g c =
    let old = c.self.inside in
    let more : IsOver old.board → ⊥ = search rules in
    let below : old.board.device.steps < old.board.script.limit = search rules in
    let told : Stepped old.board c.step.new.self = record {
      below = below;
      none = c.step.ensures.raises;
      same = c.step.ensures.run;
      still_open = c.step.ensures.open;
      steps = c.step.ensures.steps;
      spare = c.step.ensures.spare;
    } in
    let steps : c.add-2.new.self.total ≡ old.steps.total + 1 = search rules in
    let ends : c.audit-2.new.self.total ≡ old.ends.total = search rules in (
      step_keeps _ _ _ _ old.ended c.self.invariant.0 c.step.new.self c.add-2.new.self.total
          c.audit-2.new.self.total more told steps ends,
      c.self.invariant.1,
    )
