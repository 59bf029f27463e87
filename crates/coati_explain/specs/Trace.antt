-- What is told of each fault of a trace. A line is told by its number in the input.
use Rattle.std.specs.Prelude.{ℕ, ◌+◌, ◌==◌, List, [], ◌∷◌, ◌++◌, codes, length, if◌then◌else◌}
use Rattle.coati_text.specs.Line.{lines_of}
use Rattle.trace_out.specs.Lines.{word_and_number}
use Rattle.coati_top.specs.Divided.{second_part, source_part}
use Rattle.trace_text.specs.Fields.{is_quiet}
use Rattle.trace_text.specs.declared.fault.TraceFault.{TraceFault}
use Rattle.trace_text.specs.declared.fault.TraceFault.TheVariants as fault
use Rattle.coati_explain.specs.declared.message.Message.{Message}
use Rattle.coati_explain.specs.declared.message.Message.TheVariants as message
use Rattle.coati_explain.specs.Asked.{asked_of}
use Rattle.coati_explain.specs.Hints.{hint_text, return_hint}
use Rattle.coati_explain.specs.Labels.{trace_label}
use Rattle.coati_explain.specs.Shown.{shown_line}
use Rattle.coati_explain.specs.Spot.{line_of}
use Rattle.coati_explain.specs.Words.{wording}

-- the line `%%`, which stands before the trace
abbrev pub divider_line : List ℕ → ℕ
divider_line input = length (lines_of (source_part input)) + 1

-- the first line that says something, counted from 1, where so many stand before these; 0 where
-- there is none
abbrev pub first_among : ℕ → List (List ℕ) → ℕ
first_among passed [] = 0
first_among passed (line ∷ more) = if is_quiet line then first_among (passed + 1) more
    else passed + 1

-- the first line of the trace that says something
abbrev pub first_said : List ℕ → ℕ
first_said trace = first_among 0 (lines_of trace)

-- which line of the trace is told, counted from 1: where no line says anything, the one before its
-- first
abbrev pub told_line : List ℕ → TraceFault → ℕ
told_line trace (fault.BadLine number) = number
told_line trace (fault.Unknown number) = number
told_line trace (fault.Order number) = number
told_line trace (fault.TooMany number) = number
told_line trace fault.NoLimit = first_said trace
told_line trace fault.OutOfMemory = 0

abbrev pub trace_message : List ℕ → TraceFault → Message
trace_message trace (fault.BadLine number) = message.BadLine
trace_message trace (fault.Unknown number) = message.UnknownEvent
trace_message trace (fault.Order number) = message.OutOfOrder
trace_message trace (fault.TooMany number) = message.AboveLimit
trace_message trace fault.NoLimit = if first_said trace == 0 then message.NothingSaid
    else message.OtherFirst
trace_message trace fault.OutOfMemory = message.NothingSaid

-- which line is at fault, and how, on a line
abbrev pub line_heading : ℕ → List ℕ → List ℕ → List ℕ
line_heading number words label = word_and_number (codes "line") number ++ codes ": " ++ words
    ++ codes " (" ++ label ++ codes ")\n"

-- a heading, the line, and what is asked
abbrev pub lined : List ℕ → ℕ → List ℕ → List ℕ → List ℕ → List ℕ
lined input number words label asked =
    line_heading number words label
    ++ shown_line (line_of input number) ++ asked ++ codes "\n"
    ++ hint_text (return_hint (line_of input number))

-- what explains a fault of the input's trace
abbrev pub trace_explanation : List ℕ → TraceFault → List ℕ
trace_explanation input fault =
    lined input (divider_line input + told_line (second_part input) fault)
    (wording (trace_message (second_part input) fault) [] [])
    (trace_label fault) (asked_of (trace_message (second_part input) fault))
