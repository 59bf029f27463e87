use Rattle.std.proofs.Common.{◌≡◌, ◌+◌, length}
use Rattle.coati_text.specs.Line.{lines_of}
use Rattle.coati_explain.specs.Trace.{first_among, first_said}
use Rattle.coati_explain.proofs.trace_message.first_said.Given as goal

abbrev pub invariant-loop-line : goal.invariant-loop-line
invariant-loop-line l = record {
  left : first_among l.number l.line-iterator ≡ first_said l.trace;
  counted : l.number + length l.line-iterator ≡ length (lines_of l.trace);
}
