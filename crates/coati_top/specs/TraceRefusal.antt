-- What is said of a second part that is no trace, in one line.
use Rattle.std.specs.Prelude.{ℕ, List, [], ◌++◌, codes}
use Rattle.trace_text.specs.declared.fault.TraceFault.{TraceFault}
use Rattle.trace_text.specs.declared.fault.TraceFault.TheVariants.{BadLine, Unknown, Order, TooMany, NoLimit, OutOfMemory}
use Rattle.trace_out.specs.Lines.{word_and_number}

-- the line of this number, counted from 1, and the word for what is wrong with it
abbrev pub line_refusal : ℕ → List ℕ → List ℕ
line_refusal number reason = word_and_number (codes "trace line") number ++ codes " " ++ reason
    ++ codes "\n"

abbrev pub trace_refusal : TraceFault → List ℕ
trace_refusal (BadLine number) = line_refusal number (codes "bad")
trace_refusal (Unknown number) = line_refusal number (codes "unknown")
trace_refusal (Order number) = line_refusal number (codes "order")
trace_refusal (TooMany number) = line_refusal number (codes "many")
trace_refusal NoLimit = codes "trace without limit\n"
trace_refusal OutOfMemory = []
