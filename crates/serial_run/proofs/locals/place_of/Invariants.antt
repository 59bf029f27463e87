use Rattle.std.proofs.Common.{◌≡◌, drop}
use Rattle.serial_run.specs.Locals.{place_from}
use Rattle.serial_run.proofs.locals.place_of.Given as goal

abbrev pub invariant-loop-at : goal.invariant-loop-at
invariant-loop-at l = place_from l.at (drop l.at l.locals) l.name ≡ place_from 0 l.locals l.name
