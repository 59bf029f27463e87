use Rattle.std.proofs.Common.{◌≡◌, drop}
use Rattle.task_syntax.specs.Events.{with_words}
use Rattle.serial_run.specs.Locals.{locals_of}
use Rattle.serial_run.proofs.event_runs.set_all.Given as goal

abbrev pub invariant-loop-at : goal.invariant-loop-at
invariant-loop-at l = with_words (drop l.at l.names) (drop l.at l.words) (locals_of l.locals) ≡ with_words l.names l.words (locals_of l.initial.locals)
