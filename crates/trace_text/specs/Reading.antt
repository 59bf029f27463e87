-- How a text is read, line by line: the script that it is, or its first fault.
use Rattle.std.specs.Prelude.{ℕ, ◌+◌, ◌&&◌, Bool, List, [], ◌∷◌, Option, Some, None, Result, Ok, Err, bytes_eq, codes, decimal, if◌then◌else◌, nat_le, option_and_then}
use Rattle.std.specs.Option.{ok_or, option_map, option_map_or}
use Rattle.std.specs.Str.Parse.{digits_value}
use Rattle.coati_text.specs.Line.{lines_of}
use Rattle.coati_word.specs.declared.limits.TheConstants.{PERIOD_STEPS}
use Rattle.serial_log.specs.declared.script.Posting.{Posting}
use Rattle.serial_log.specs.declared.script.Script.{Script}
use Rattle.task_check.specs.Numbers.{event_of}
use Rattle.task_syntax.specs.declared.program.Program.{Program}
use Rattle.trace_text.specs.declared.fault.TraceFault.{TraceFault}
use Rattle.trace_text.specs.declared.fault.TraceFault.TheVariants.{BadLine, Unknown, Order, TooMany, NoLimit}
use Rattle.trace_text.specs.declared.statement.Statement.{Statement}
use Rattle.trace_text.specs.declared.statement.Statement.TheVariants.{Limit, Power, At}
use Rattle.trace_text.specs.Fields.{fields_of, first_word, is_quiet}
use Rattle.trace_text.specs.Statements.{greatest_argument, greatest_device, greatest_number}
use Rattle.trace_text.specs.Trace.{is_in_order, is_known, is_within, script_behind}

-- the field is the decimal of this number, which is in the range
abbrev pub is_decimal_of : ℕ → ℕ → List ℕ → ℕ → Bool
is_decimal_of least most field number = bytes_eq field (decimal number) && nat_le least number
    && nat_le number most

-- the number in the range of which the field is the decimal
abbrev pub number_in : ℕ → ℕ → List ℕ → Option ℕ
number_in least most field = if is_decimal_of least most field (digits_value 10 field) then Some
    (digits_value 10 field) else None

-- the limit that the fields behind the word `limit` tell
abbrev pub limit_of : List (List ℕ) → Option ℕ
limit_of (limit ∷ []) = number_in 0 greatest_number limit
limit_of fields = None

-- so many power periods, the length of which the field tells
abbrev pub power_of : List ℕ → ℕ → Option Statement
power_of period times = option_map (λ period. Power period times) (number_in 1 PERIOD_STEPS period)

-- what the fields behind the word `power` say
abbrev pub powers_of : List (List ℕ) → Option Statement
powers_of (period ∷ []) = power_of period 1
powers_of (period ∷ word ∷ times ∷ []) =
    if bytes_eq word (codes "times") then option_and_then (power_of period)
    (number_in 1 greatest_number times) else None
powers_of fields = None

-- what those behind `at` say
abbrev pub at_of : Program → List (List ℕ) → Option Statement
at_of program (time ∷ device ∷ [] ∷ more) = None
at_of program (time ∷ device ∷ event ∷ argument ∷ []) =
    option_and_then (λ time. option_and_then (λ device. option_map
    (λ argument. At time device (event_of program event) argument)
    (number_in 0 greatest_argument argument)) (number_in 0 greatest_device device))
    (number_in 0 greatest_number time)
at_of program fields = None

-- what a line of these fields says
abbrev pub statement_of : Program → List (List ℕ) → Option Statement
statement_of program [] = None
statement_of program (word ∷ fields) =
    if bytes_eq word (codes "limit") then option_map Limit (limit_of fields)
    else (if bytes_eq word (codes "power") then powers_of fields
    else (if bytes_eq word (codes "at") then at_of program fields else None))

-- the statement of a posting of one of the program's events
abbrev pub posting_statement : Posting → Statement
posting_statement posting = At posting.time posting.device (Some posting.event) posting.argument

-- what a statement in the line of this number makes of what was told before it
abbrev pub statement_reading : Program → ℕ → Option Script → Statement → Result Script TraceFault
statement_reading program number told statement =
    if is_known statement then
    (if is_in_order told statement then
    (if is_within program (script_behind told statement) then Ok (script_behind told statement)
    else Err (TooMany number))
    else Err (Order number))
    else Err (Unknown number)

-- what the line of this number makes of it
abbrev pub said_reading : Program → ℕ → Option Script → List ℕ → Result Script TraceFault
said_reading program number told line =
    option_map_or (statement_reading program number told) (statement_of program (fields_of line))
    (Err (BadLine number))

abbrev pub line_reading : Program → ℕ → Option Script → List ℕ → Result Script TraceFault
line_reading program number None line =
    if bytes_eq (first_word line) (codes "limit") then said_reading program number None line
    else Err NoLimit
line_reading program number (Some script) line = said_reading program number (Some script) line

-- what goes on with the script of a reading, and leaves a fault as it is
abbrev pub read_on : (Script → Result Script TraceFault) → Result Script TraceFault →
    Result Script TraceFault
read_on behind (Ok script) = behind script
read_on behind (Err fault) = Err fault

-- what the lines behind the line of this number make of it
abbrev pub lines_reading : Program → ℕ → Option Script → List (List ℕ) → Result Script TraceFault
lines_reading program number told [] = ok_or told NoLimit
lines_reading program number told (line ∷ more) =
    if is_quiet line then lines_reading program (number + 1) told more
    else read_on (λ script. lines_reading program (number + 1) (Some script) more)
    (line_reading program (number + 1) told line)

-- what a text is
abbrev pub reading : Program → List ℕ → Result Script TraceFault
reading program text = lines_reading program 0 None (lines_of text)
