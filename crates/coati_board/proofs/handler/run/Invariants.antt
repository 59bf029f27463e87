use Rattle.coati_device.specs.Raises.{Ran}
use Rattle.coati_board.proofs.handler.run.Given as goal

abbrev pub invariant-loop-hand : goal.invariant-loop-hand
invariant-loop-hand l = Ran l.fn.code l.fn.event l.fn.first l.fn.device l.hand l.device

abbrev pub decreases-loop-hand : goal.decreases-loop-hand
decreases-loop-hand l = l.device.spare
