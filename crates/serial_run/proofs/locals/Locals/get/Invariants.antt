use Rattle.std.proofs.Common.{◌≡◌, drop}
use Rattle.serial_run.specs.Locals.{locals_of, value_among}
use Rattle.serial_run.proofs.locals.Locals.get.Given as goal

abbrev pub invariant-loop-local : goal.invariant-loop-local
invariant-loop-local l = value_among (drop l.local-index l.self.named.items) l.name ≡ locals_of l.self l.name
