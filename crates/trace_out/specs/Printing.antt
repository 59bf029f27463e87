-- How the printing of a text may end.
use Rattle.std.specs.Prelude.{ℕ, List, Result, Ok, Err}
use Rattle.coati_io.specs.Writing.{OutputEdge, WritesAll, WritesFront, WritesNothing}
use Rattle.trace_out.specs.declared.print_end.PrintEnd.{PrintEnd}
use Rattle.trace_out.specs.declared.print_end.PrintEnd.TheVariants as end

-- all of the text was written, or the output failed and a front of it was, or there was no memory
-- for it and nothing was written
abbrev pub EndsPrinting : OutputEdge → List ℕ → Result Unit PrintEnd → Type 0
EndsPrinting output text (Ok x) = WritesAll output text
EndsPrinting output text (Err end.Fault) = WritesFront output text
EndsPrinting output text (Err end.OutOfMemory) = WritesNothing output
