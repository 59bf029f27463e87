use Rattle.std.proofs.Common.{◌≡◌, ◌+◌, ◌≤◌, length}
use Rattle.std.specs.List.{sum_by}
use Rattle.coati_text.specs.Line.{lines_of}
use Rattle.trace_out.specs.Reading.{lines_reading, reading, readings_of}
use Rattle.trace_out.proofs.print_reader.printed_of.Given as goal

abbrev pub invariant-loop-line : goal.invariant-loop-line
invariant-loop-line l = record {
  left : lines_reading l.checked l.number l.stage l.line-iterator ≡ reading l.checked l.text;
  counted : l.number + length l.line-iterator ≡ length (lines_of l.text) + 1;
  few : length (readings_of l.stage) + sum_by length l.line-iterator ≤ length l.text;
}
