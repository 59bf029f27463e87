use Rattle.std.proofs.Common.{◌≡◌, ◌≤◌, [], length, refl, sym, arith}
use Rattle.std.proofs.lemmas.Option.{slice_get_past}
use Rattle.coati_io.proofs.Sending.{puts_none, puts_same}
use Rattle.trace_out.specs.Names.{event_name}
use Rattle.trace_out.proofs.names.Names.put_event.Goals as goal

pub returns-else-event-events : goal.returns-else-event-events
returns-else-event-events g c =
    let program = c.args.self.now.checked.now in
    let past : length program.events ≤ c.args.event = omega (arith, c.events.ensures.events, c.if-event-events.false) in
    let none : event_name program c.args.event ≡ [] = rw (slice_get_past program.events c.args.event past) refl in
    puts_same puts_none (sym none)
