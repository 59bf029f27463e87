use Rattle.std.proofs.Common.{◌+◌, ◌++◌, drop, ap, sym, ◌∙◌, append_assoc}
use Rattle.std.specs.Prelude.{flat_map}
use Rattle.codegen.specs.Listing.{event_lines}
use Rattle.codegen.proofs.FromNumber.{drop_from}
use Rattle.codegen.proofs.lister.put_events.Goals as goal

pub loop-number-preserved : goal.loop-number-preserved
loop-number-preserved c =
    let program = c.args.checked.now in
    let number = c.loop-number.number in
    let event = c.event.result.now in
    let out = c.loop-number.out.items in
    let more = flat_map (event_lines program) (drop (number + 1) program.events) in
    ap (λ list. list ++ more) c.in_ok-put_event.ensures ∙ append_assoc out (event_lines program event) more
    ∙ ap (λ list. out ++ flat_map (event_lines program) list) (sym (drop_from program.events number event c.event.ensures)) ∙ c.loop-number.invariant
