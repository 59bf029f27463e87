use Rattle.executor.proofs.Going.{IsGoing, rounds_left}
use Rattle.executor.proofs.scripted.run_scripted.Given as goal

abbrev pub invariant-loop-posting : goal.invariant-loop-posting
invariant-loop-posting l = IsGoing l.fn.board l.board

abbrev pub decreases-loop-posting : goal.decreases-loop-posting
decreases-loop-posting l = rounds_left l.board
