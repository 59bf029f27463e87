use Rattle.std.proofs.Common.{arith}
use Rattle.booth.proofs.Keeping.{Raised, room_behind_raise, room_for_one}
use Rattle.booth.proofs.Left.{left_falls}
use Rattle.device_post.proofs.Going.{same_still}
use Rattle.device_post.proofs.finish.raise_rest.Goals as goal
use Rattle.device_post.proofs.finish.raise_rest.Goals.{After-post_next-answer}

pub post_next-answer-requires-clause-spare : goal.post_next-answer-requires-clause-spare
post_next-answer-requires-clause-spare c =
    let can = c.in-Some.ensures.some in
    room_for_one c.loop-posting.board c.in-Some.posting.device c.loop-posting.invariant.room can.0
    can.1

raised : (c : After-post_next-answer) →
    Raised c.loop-posting.board c.in-Some.posting.device c.post_next-answer.new.self
    c.post_next-answer.result
raised c =
    let told = c.post_next-answer.ensures in
    record {
      low = c.in-Some.ensures.some.0;
      next = told.next;
      same = told.raise.same;
      still_open = told.open;
      steps = told.steps;
      spare = told.spare;
    }

pub loop-posting-smaller : goal.loop-posting-smaller
loop-posting-smaller c =
    let told = raised (goal.at.loop-posting-smaller c).After-post_next-answer in
    let falls = left_falls _ _ _ _ told.next 8 told.low in
    omega (arith, falls)

pub loop-posting-preserved : goal.loop-posting-preserved
loop-posting-preserved c =
    let told = raised (goal.at.loop-posting-preserved c).After-post_next-answer in
    let going = c.loop-posting.invariant in
    record {
      same = same_still _ _ _ going.same told.same;
      room = room_behind_raise _ _ _ _ going.room told;
      still_open = told.still_open;
    }
