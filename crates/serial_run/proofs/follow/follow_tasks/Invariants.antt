use Rattle.serial_run.proofs.Following.{GoesRound, HasCome}
use Rattle.serial_run.proofs.follow.follow_tasks.Given as goal

abbrev pub invariant-loop-done : goal.invariant-loop-done
invariant-loop-done l = record {
  come : HasCome l.checked l.task l.fn.store l.done l.reads l.followed;
  round : GoesRound l.checked l.task l.round l.followed;
}
