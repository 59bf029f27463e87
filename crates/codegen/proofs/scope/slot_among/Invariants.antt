use Rattle.std.proofs.Common.{◌≡◌, drop, map}
use Rattle.codegen.specs.Located.{local_of}
use Rattle.codegen.specs.Scope.{slot_of}
use Rattle.codegen.proofs.scope.slot_among.Given as goal

abbrev pub invariant-loop-local : goal.invariant-loop-local
invariant-loop-local l = slot_of (map local_of (drop l.local-index l.locals)) l.name ≡ slot_of (map local_of l.locals) l.name
