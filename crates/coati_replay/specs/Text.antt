-- A printed text, line by line.
use Rattle.std.specs.Prelude.{ℕ, ◌+◌, ◌<◌, ◌≤◌, ◌≡◌, ◌^◌, All, List, [], ◌∷◌, ◌++◌, length, map, take, drop}
use Rattle.coati_word.specs.declared.mode.Mode.{Mode}
use Rattle.task_syntax.specs.declared.program.Program.{Program}
use Rattle.task_syntax.specs.declared.program.Var.{Var}
use Rattle.task_syntax.specs.Names.{count_of, tasks, word_count}
use Rattle.task_check.specs.Counts.{transactions}
use Rattle.serial_log.specs.declared.end.End.{End}
use Rattle.serial_log.specs.declared.line.Line.{Line}
use Rattle.serial_log.specs.declared.line.Line.TheVariants.{Boot, Post, Commit, Abort}
use Rattle.serial_log.specs.declared.printed.Printed.{Printed}
use Rattle.serial_log.specs.declared.unit.Unit.{Unit as Committed}
use Rattle.serial_log.specs.declared.unit.Unit.TheVariants.{Task, Transaction, Event}

-- what a line tells
pub data TextLine : Type 0 where
  mode_is : Mode → TextLine
  bound_is : ℕ → TextLine
  shows : Line → TextLine
  ends : End → TextLine
  -- the words of a variable, the first of which has the number `first`
  holds : (first : ℕ) → (values : List ℕ) → TextLine
  -- how many accepted postings are in no record
  held_are : ℕ → TextLine

-- the line of each of these variables, where the first of them begins at the word `first`
abbrev pub variable_lines : List ℕ → ℕ → List Var → List TextLine
variable_lines values first [] = []
variable_lines values first (var ∷ more) =
    TextLine.holds first (take (count_of var.length) (drop first values))
    ∷ variable_lines values (first + count_of var.length) more

-- the lines of the variables, and the last one
abbrev pub store_lines : Program → Printed → List TextLine
store_lines program printed = variable_lines printed.values 0 program.vars
    ++ TextLine.held_are printed.held ∷ []

-- the lines from the end line on
abbrev pub last_lines : Program → Printed → List TextLine
last_lines program printed = TextLine.ends printed.end ∷ store_lines program printed

-- all lines, the first of which has the number 1
abbrev pub text_lines : Program → Printed → List TextLine
text_lines program printed =
    TextLine.mode_is printed.mode ∷ TextLine.bound_is printed.bound
    ∷ (map TextLine.shows printed.lines ++ last_lines program printed)

-- the program has the unit
abbrev pub IsUnitOf : Program → Committed → Type 0
IsUnitOf program (Task task) = task < length (tasks program)
IsUnitOf program (Transaction tx) = tx < length (transactions program)
IsUnitOf program (Event event) = event < length program.events

-- the program has what a line names, and a record's readings are among the first `count`
abbrev pub IsLineOf : Program → ℕ → Line → Type 0
IsLineOf program count (Boot number at) = Unit {0}
IsLineOf program count (Post at posted) = posted.event < length program.events
IsLineOf program count (Commit committed) = IsUnitOf program committed.unit
    × (committed.reads_from + committed.reads_len ≤ count)
IsLineOf program count (Abort aborted) = IsUnitOf program aborted.unit

-- a printed text names parts of this program alone, and has a value for each of its words
pub record IsTextOf (program : Program) (printed : Printed) : Type 0 where
  pub lines : All (IsLineOf program (length printed.readings)) printed.lines
  pub few : length printed.lines < 2 ^ 31
  pub values : length printed.values ≡ word_count program.vars
