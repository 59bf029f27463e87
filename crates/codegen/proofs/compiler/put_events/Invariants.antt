use Rattle.std.proofs.Common.{◌≡◌, drop}
use Rattle.std.specs.Prelude.{flat_map}
use Rattle.codegen.specs.Compiling.{with_bodies}
use Rattle.codegen.specs.Templates.{half_words}
use Rattle.codegen.proofs.compiler.put_events.Given as goal

abbrev pub invariant-loop-event : goal.invariant-loop-event
invariant-loop-event l = with_bodies (flat_map (half_words l.checked) (drop l.event-index l.events)) l.code ≡ with_bodies (flat_map (half_words l.checked) l.events) l.initial.code
