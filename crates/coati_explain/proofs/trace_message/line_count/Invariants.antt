use Rattle.std.proofs.Common.{◌≡◌, ◌+◌, length}
use Rattle.coati_text.specs.Line.{lines_of}
use Rattle.coati_explain.proofs.trace_message.line_count.Given as goal

abbrev pub invariant-loop : goal.invariant-loop
invariant-loop l = l.count + length l.iterator' ≡ length (lines_of l.text)
