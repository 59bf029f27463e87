use Rattle.std.proofs.Common.{◌≡◌, ◌+◌, true, length, IfSome}
use Rattle.coati_text.specs.Line.{lines_of}
use Rattle.trace_text.specs.Reading.{lines_reading, reading}
use Rattle.trace_text.specs.Trace.{is_within}
use Rattle.trace_text.proofs.trace.script_of.Given as goal

abbrev pub invariant-loop-line : goal.invariant-loop-line
invariant-loop-line l = record {
  left : lines_reading l.checked l.number l.told l.line-iterator ≡ reading l.checked l.text;
  counted : l.number + length l.line-iterator ≡ length (lines_of l.text);
  within : IfSome l.told (λ script. is_within l.checked script ≡ true);
}
