use Rattle.std.proofs.Common.{◌<◌, ◌∙◌, rules}
use Rattle.booth.proofs.Keeping.{Stepped, room_behind_step}
use Rattle.device_post.proofs.Going.{same_still}
use Rattle.device_post.proofs.finish.step_rest.Goals as goal

pub loop-board-preserved : goal.loop-board-preserved
loop-board-preserved c =
    let old = c.loop-board.board in
    let new = c.step.new.self in
    let going = c.loop-board.invariant.0 in
    let below : old.device.steps < old.script.limit = search rules in
    let told : Stepped old new = record {
      below = below;
      none = c.step.ensures.raises;
      same = c.step.ensures.run;
      still_open = c.step.ensures.open;
      steps = c.step.ensures.steps;
      spare = c.step.ensures.spare;
    } in (
      record {
        same = same_still _ _ _ going.same told.same;
        room = room_behind_step old new going.room told;
        still_open = told.still_open;
      },
      λ device low. told.none.left device ∙ c.loop-board.invariant.1 device low,
    )
