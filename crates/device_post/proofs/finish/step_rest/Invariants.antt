use Rattle.std.proofs.Common.{◌-◌}
use Rattle.coati_board.specs.Postings.{HasNoneLeft}
use Rattle.device_post.proofs.Going.{IsGoing}
use Rattle.device_post.proofs.finish.step_rest.Given as goal

abbrev pub invariant-loop-board : goal.invariant-loop-board
invariant-loop-board l = IsGoing l.fn.board l.board × HasNoneLeft l.board

abbrev pub decreases-loop-board : goal.decreases-loop-board
decreases-loop-board l = l.board.script.limit - l.board.device.steps
