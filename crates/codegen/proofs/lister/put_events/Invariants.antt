use Rattle.std.proofs.Common.{◌≡◌, ◌++◌, drop}
use Rattle.std.specs.Prelude.{flat_map}
use Rattle.codegen.specs.Listing.{event_lines}
use Rattle.codegen.proofs.lister.put_events.Given as goal

abbrev pub invariant-loop-number : goal.invariant-loop-number
invariant-loop-number l =
    l.out.items ++ flat_map (event_lines l.checked) (drop l.number l.checked.events) ≡ l.initial.out.items ++ flat_map (event_lines l.checked) l.checked.events
