use Rattle.std.proofs.Common.{◌≡◌, get_or}
use Rattle.std.specs.Prelude.{Some, slice_get}
use Rattle.serial_run.proofs.Elements.{get-is}
use Rattle.serial_run.proofs.event_runs.run_halves.Goals as goal

pub returns-clause-ending : goal.returns-clause-ending
returns-clause-ending c =
    let event = c.index-as_slice-event.result in
    let is : event ≡ get_or c.args.checked.now.events c.args.event event = rw (c.as_slice.ensures, c.program.ensures.program) at c.index-as_slice-event.is in
    let found : slice_get c.args.checked.now.events c.args.event ≡ Some event = get-is c.args.checked.now.events c.args.event event c.requires.event is in
    rw found (rw (c.as_slice-4.ensures, c.in_ok-set_all.ensures, c.as_slice-2.ensures, c.as_slice-3.ensures.words, c.in_ok-message.ensures, c.new-locals.ensures) at c.run_body.ensures.ending)

pub returns-clause-moment : goal.returns-clause-moment
returns-clause-moment c =
    let event = c.index-as_slice-event.result in
    let is : event ≡ get_or c.args.checked.now.events c.args.event event = rw (c.as_slice.ensures, c.program.ensures.program) at c.index-as_slice-event.is in
    let found : slice_get c.args.checked.now.events c.args.event ≡ Some event = get-is c.args.checked.now.events c.args.event event c.requires.event is in
    rw found (rw (c.as_slice-4.ensures, c.in_ok-set_all.ensures, c.as_slice-2.ensures, c.as_slice-3.ensures.words, c.in_ok-message.ensures, c.new-locals.ensures) at c.run_body.ensures.moment)
