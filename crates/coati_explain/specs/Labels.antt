-- The refusal that a message explains, in the words of docs/FORMATS.md.
use Rattle.std.specs.Prelude.{ℕ, List, [], ◌++◌, codes}
use Rattle.task_check.specs.Accepted.{number_of}
use Rattle.trace_text.specs.declared.fault.TraceFault.{TraceFault}
use Rattle.trace_text.specs.declared.fault.TraceFault.TheVariants.{BadLine, Unknown, Order, TooMany, NoLimit, OutOfMemory}
use Rattle.trace_out.specs.Lines.{word_and_number}
use Rattle.coati_top.specs.Refusal.{rule_text}
use Rattle.coati_top.specs.declared.source_fault.SourceFault.{SourceFault}
use Rattle.coati_top.specs.declared.source_fault.SourceFault.TheVariants as fault

-- a rule's place stands in front already
abbrev pub label_of : SourceFault → List ℕ
label_of (fault.Lexical at) = word_and_number (codes "lexical") at
label_of (fault.Number at) = word_and_number (codes "number") at
label_of (fault.Syntax token) = word_and_number (codes "syntax") token
label_of (fault.Deep token) = word_and_number (codes "deep") token
label_of (fault.Rule rule at) = word_and_number (codes "rule") (number_of rule) ++ codes " "
    ++ rule_text rule

-- a line of the trace, counted from its own first one
abbrev pub line_label : ℕ → List ℕ → List ℕ
line_label number reason = word_and_number (codes "trace line") number ++ codes " " ++ reason

abbrev pub trace_label : TraceFault → List ℕ
trace_label (BadLine number) = line_label number (codes "bad")
trace_label (Unknown number) = line_label number (codes "unknown")
trace_label (Order number) = line_label number (codes "order")
trace_label (TooMany number) = line_label number (codes "many")
trace_label NoLimit = codes "trace without limit"
trace_label OutOfMemory = []
