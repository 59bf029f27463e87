use Rattle.device_post.proofs.Going.{same_still}
use Rattle.device_post.proofs.Whole.{none_is_first, whole_where_none_left}
use Rattle.device_post.proofs.finish.finish.Goals as goal

pub returns : goal.returns
returns c =
    let raised = c.raise_rest.ensures in
    let stepped = c.step_rest.ensures in
    record {
      same = same_still _ _ _ raised.same stepped.same;
      still_open = stepped.open;
      come = stepped.come;
      none_left = none_is_first c.step_rest.new.board c.first_left-left.result stepped.none
          c.first_left-left.ensures.first c.first_left-left.ensures.some;
      whole = whole_where_none_left c.step_rest.new.board c.history-history.ensures.order
          stepped.none;
    }
