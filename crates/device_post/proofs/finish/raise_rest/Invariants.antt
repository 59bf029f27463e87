use Rattle.booth.specs.Left.{left_in_all}
use Rattle.device_post.proofs.Going.{IsGoing}
use Rattle.device_post.proofs.finish.raise_rest.Given as goal

abbrev pub invariant-loop-posting : goal.invariant-loop-posting
invariant-loop-posting l = IsGoing l.fn.board l.board

abbrev pub decreases-loop-posting : goal.decreases-loop-posting
decreases-loop-posting l = left_in_all l.board
