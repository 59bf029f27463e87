use Rattle.std.proofs.Common.{arith}
use Rattle.std.proofs.lemmas.Grind.{common_steps}
use Rattle.trace_text.proofs.LineCounts.{lines_of-at_most}
use Rattle.coati_explain.proofs.trace_message.first_said.Goals as goal

pub overflow_add-number : goal.overflow_add-number
overflow_add-number c = grind (arith, common_steps, lines_of-at_most c.args.trace.now, c.in-Some.ensures.steps, c.loop-line.invariant.counted)
