use Rattle.std.proofs.Common.{rules}
use Rattle.worked_bodies.proofs.Bodies.{bottom_has_body, top_has_body}
use Rattle.worked_bodies.proofs.tests.bodies.compare_event.Goals as goal

pub run_on_both-requires-clause-body : goal.run_on_both-requires-clause-body
run_on_both-requires-clause-body g c = top_has_body c.args.compiled.now.checked c.args.event c.args.argument c.event-declared.result.now c.event-declared.ensures

pub run_on_both-requires-2-clause-body : goal.run_on_both-requires-2-clause-body
run_on_both-requires-2-clause-body g c = bottom_has_body c.args.compiled.now.checked c.args.event c.event-declared.result.now c.as_slice-words.result.now c.event-declared.ensures (search rules)
