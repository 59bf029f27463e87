-- Printed texts: the mode, the bound on progress, a line for each mark that is shown, the end, the
-- variables, and how many postings are held.
use Rattle.std.specs.Prelude.{ℕ, ◌≡◌, ◌≤◌, ◌<◌, ◌+◌, ◌⊎◌, List, [], ◌∷◌, ◌++◌, codes, decimal, drop, flat_map, length, map, take}
use Rattle.std.specs.List.{AllByRecursion}
use Rattle.coati_text.specs.Line.{line_feed, lines_of}
use Rattle.coati_word.specs.declared.limits.TheConstants.{EXECUTOR_STEPS}
use Rattle.coati_word.specs.declared.mode.Mode.{Mode}
use Rattle.coati_word.specs.declared.mode.Mode.TheVariants.{Split, Buffi}
use Rattle.coati_word.specs.declared.reading.Reading.{Reading}
use Rattle.serial_log.specs.declared.abort.AbortOf.{AbortOf}
use Rattle.serial_log.specs.declared.line.Line.{Line}
use Rattle.serial_log.specs.declared.line.Line.TheVariants as line
use Rattle.serial_log.specs.declared.posted.Answer.{Answer}
use Rattle.serial_log.specs.declared.posted.Answer.TheVariants as answer
use Rattle.serial_log.specs.declared.posted.Posted.{Posted}
use Rattle.serial_log.specs.declared.printed.Printed.{Printed}
use Rattle.serial_log.specs.declared.record.Record.{Record}
use Rattle.serial_log.specs.declared.unit.Unit.{Unit as Committed}
use Rattle.serial_log.specs.declared.unit.Unit.TheVariants as unit
use Rattle.task_check.specs.Counts.{transactions}
use Rattle.task_syntax.specs.declared.program.Program.{Program}
use Rattle.task_syntax.specs.declared.program.Var.{Var}
use Rattle.task_syntax.specs.Names.{count_of, tasks, word_count}
use Rattle.trace_out.specs.Shown.{end_line, line_text}
use Rattle.trace_out.specs.Lines.{with_end, word_and_number}

abbrev pub mode_line : Mode → List ℕ
mode_line Split = codes "coati split"
mode_line Buffi = codes "coati buffi"

abbrev pub bound_line : ℕ → List ℕ
bound_line bound = word_and_number (codes "bound") bound

-- a blank and a value
abbrev pub value_text : ℕ → List ℕ
value_text value = codes " " ++ decimal value

-- of a variable with these values
abbrev pub variable_line : Var → List ℕ → List ℕ
variable_line var values = codes "var " ++ var.name.text ++ flat_map value_text values

-- of these variables, whose words have these values
abbrev pub variable_lines : List Var → List ℕ → List (List ℕ)
variable_lines [] values = []
variable_lines (var ∷ more) values =
    variable_line var (take (count_of var.length) values)
    ∷ variable_lines more (drop (count_of var.length) values)

abbrev pub held_line : ℕ → List ℕ
held_line held = word_and_number (codes "held") held

-- the lines up to the end line
abbrev pub lines_before_end : Program → Printed → List (List ℕ)
lines_before_end program printed =
    mode_line printed.mode ∷ bound_line printed.bound
    ∷ map (line_text program printed.readings) printed.lines

-- the lines up to the line of how many postings are held, where so many variables have theirs
abbrev pub lines_before_held : Program → Printed → ℕ → List (List ℕ)
lines_before_held program printed count =
    lines_before_end program printed
    ++ end_line printed.end ∷ variable_lines (take count program.vars) printed.values

-- all lines
abbrev pub printed_lines : Program → Printed → List (List ℕ)
printed_lines program printed =
    lines_before_held program printed (length program.vars) ++ held_line printed.held ∷ []

-- lines, each with its end
abbrev pub text_of : List (List ℕ) → List ℕ
text_of lines = flat_map with_end lines

-- the printed text
abbrev pub printed_text : Program → Printed → List ℕ
printed_text program printed = text_of (printed_lines program printed)

-- the greatest number that a printed text tells
abbrev pub greatest_number : ℕ
greatest_number = 4294967295

abbrev pub greatest_device : ℕ
greatest_device = 7

-- the greatest value of a variable word and of an argument
abbrev pub greatest_value : ℕ
greatest_value = 65535

-- the program has a task, a transaction or an event of this number
abbrev pub HasUnit : Program → Committed → Type 0
HasUnit program (unit.Task task) = task < length (tasks program)
HasUnit program (unit.Transaction tx) = tx < length (transactions program)
HasUnit program (unit.Event event) = event < length program.events

-- how many tasks a unit may have
abbrev pub IsTaskCount : ℕ → Type 0
IsTaskCount tasks = (1 ≤ tasks) × (tasks ≤ EXECUTOR_STEPS)

-- a lone task is one task, an event none; an event alone has a posting
abbrev pub IsCounted : Record → Committed → Type 0
IsCounted committed (unit.Task task) = (committed.tasks ≡ 1) × (committed.posting ≡ 0)
IsCounted committed (unit.Transaction tx) = IsTaskCount committed.tasks
    × (committed.posting ≡ 0)
IsCounted committed (unit.Event event) = (committed.tasks ≡ 0)
    × (committed.posting ≤ greatest_number)

-- a record that a text may show
pub record IsRecord (program : Program) (committed : Record) : Type 0 where
  pub unit : HasUnit program committed.unit
  pub counted : IsCounted committed committed.unit

-- an event is never given up
abbrev pub IsOfTasks : Committed → Type 0
IsOfTasks (unit.Event event) = ⊥
IsOfTasks unit = Unit {0}

-- an abort that a text may show
pub record IsAbort (program : Program) (aborted : AbortOf) : Type 0 where
  pub unit : HasUnit program aborted.unit
  pub of_tasks : IsOfTasks aborted.unit
  pub tasks : IsTaskCount aborted.tasks
  pub posting : aborted.posting ≤ greatest_number
  pub word : aborted.word < word_count program.vars

abbrev pub IsAnswerInRange : Answer → Type 0
IsAnswerInRange (answer.Accepted number) = number ≤ greatest_number
IsAnswerInRange answer.Full = Unit {0}
IsAnswerInRange (answer.Lost boot) = boot ≤ greatest_number

-- a posting that a text may show
pub record IsPost (program : Program) (at : ℕ) (posted : Posted) : Type 0 where
  pub device : posted.device ≤ greatest_device
  pub index : posted.index ≤ greatest_number
  pub event : posted.event < length program.events
  pub argument : posted.argument ≤ greatest_value
  pub from : posted.from ≤ greatest_number
  pub answered : at ≤ greatest_number
  pub answer : IsAnswerInRange posted.answer

-- a line that a text may have
abbrev pub IsLine : Program → Line → Type 0
IsLine program (line.Boot number at) = (number ≤ greatest_number) × (at ≤ greatest_number)
IsLine program (line.Post at posted) = IsPost program at posted
IsLine program (line.Commit committed) = IsRecord program committed
IsLine program (line.Abort aborted) = IsAbort program aborted

-- a reading that a text may show
pub record IsReading (program : Program) (reading : Reading) : Type 0 where
  pub word : reading.word < word_count program.vars
  pub value : reading.value ≤ greatest_value

-- the readings of each record begin where those before it end, and the last end here
abbrev pub AreInOrder : ℕ → List Line → ℕ → Type 0
AreInOrder from [] end = from ≡ end
AreInOrder from (line.Commit committed ∷ more) end =
    (committed.reads_from ≡ from) × AreInOrder (from + committed.reads_len) more end
AreInOrder from (first ∷ more) end = AreInOrder from more end

-- what a text of the program may say: its numbers are in range and of the program
pub record IsPrintable (program : Program) (printed : Printed) : Type 0 where
  pub bound : printed.bound ≤ greatest_number
  pub lines : AllByRecursion (IsLine program) printed.lines
  pub readings : AllByRecursion (IsReading program) printed.readings
  pub order : AreInOrder 0 printed.lines (length printed.readings)
  pub count : length printed.values ≡ word_count program.vars
  pub values : AllByRecursion (λ value. value ≤ greatest_value) printed.values
  pub held : printed.held ≤ greatest_number

-- the text says this; the end of its last line may be missing
pub record PrintedText (program : Program) (text : List ℕ) (printed : Printed) : Type 0 where
  pub printable : IsPrintable program printed
  pub says : (text ≡ printed_text program printed)
      ⊎ (text ++ line_feed ∷ [] ≡ printed_text program printed)

-- some printed text begins with these lines
pub record Begins (program : Program) (front : List (List ℕ)) : Type 0 where
  pub printed : Printed
  pub printable : IsPrintable program printed
  pub more : List (List ℕ)
  pub lines : printed_lines program printed ≡ front ++ more

-- no printed text goes on so behind these lines: one is missing, or the next has no form that is
-- allowed there
abbrev pub Breaks : Program → List (List ℕ) → List (List ℕ) → Type 0
Breaks program front [] =
    (printed : Printed) → IsPrintable program printed → printed_lines program printed ≡ front → ⊥
Breaks program front (line ∷ more) = Begins program (front ++ line ∷ []) → ⊥

-- the line of this number, counted from 1, is the first without an allowed form
pub record IsBadLine (program : Program) (text : List ℕ) (number : ℕ) : Type 0 where
  pub front : List (List ℕ)
  pub rest : List (List ℕ)
  pub lines : lines_of text ≡ front ++ rest
  pub counted : number ≡ length front + 1
  pub begins : Begins program front
  pub breaks : Breaks program front rest
