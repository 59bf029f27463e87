use Rattle.std.proofs.Common.{arith}
use Rattle.std.proofs.lemmas.Grind.{common_steps}
use Rattle.trace_text.proofs.LineCounts.{lines_of-at_most}
use Rattle.coati_explain.proofs.trace_message.line_count.Goals as goal

pub overflow_add-count : goal.overflow_add-count
overflow_add-count c = grind (arith, common_steps, lines_of-at_most c.args.text.now, c.in-Some.ensures.steps, c.loop.invariant)

pub returns-clause-few : goal.returns-clause-few
returns-clause-few c = grind (arith, common_steps, lines_of-at_most c.args.text.now, c.in-None.ensures.steps, c.loop.invariant)
