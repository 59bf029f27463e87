use Rattle.std.proofs.Common.{arith}
use Rattle.std.proofs.lemmas.Grind.{common_steps}
use Rattle.trace_text.proofs.LineCounts.{lines_of-at_most}
use Rattle.trace_text.proofs.trace.script_of.Goals as goal

pub overflow_add-number : goal.overflow_add-number
overflow_add-number c = grind (arith, common_steps, lines_of-at_most c.args.text.now, c.in-Some.ensures.steps, c.loop-line.invariant.counted)
