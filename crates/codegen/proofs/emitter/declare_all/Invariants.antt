use Rattle.std.proofs.Common.{◌≡◌, ◌+◌, drop, length}
use Rattle.codegen.specs.Scope.{declare_all}
use Rattle.codegen.proofs.emitter.declare_all.Given as goal

abbrev pub invariant-loop-name : goal.invariant-loop-name
invariant-loop-name l = record {
  scope : declare_all (drop l.name-index l.params) l.scope ≡ declare_all l.params l.initial.scope;
  slots : l.scope.next + length (drop l.name-index l.params) ≡ l.initial.scope.next + length l.params;
}
