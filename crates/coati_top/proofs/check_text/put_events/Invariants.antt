use Rattle.std.proofs.Common.{◌≡◌, ◌++◌, drop}
use Rattle.std.specs.Prelude.{flat_map}
use Rattle.coati_top.specs.CheckText.{event_line}
use Rattle.coati_top.proofs.check_text.put_events.Given as goal

abbrev pub invariant-loop-number : goal.invariant-loop-number
invariant-loop-number l =
    l.out.items ++ flat_map (event_line l.checked) (drop l.number l.checked.events) ≡ l.initial.out.items ++ flat_map (event_line l.checked) l.checked.events
