-- What a run shows, by its marks before the End mark: it is a printed text where its numbers are in
-- range.
use Rattle.std.specs.Prelude.{ℕ, zero, suc, ◌≡◌, ◌+◌, ◌<◌, ◌≤◌, List, [], ◌∷◌, ◌++◌, None, flat_map, length}
use Rattle.std.specs.List.{AllByRecursion}
use Rattle.coati_board.specs.Board.{end_of}
use Rattle.coati_word.specs.declared.mode.Mode.{Mode}
use Rattle.coati_word.specs.declared.reading.Reading.{Reading}
use Rattle.serial_log.specs.declared.end.End.{End}
use Rattle.serial_log.specs.declared.line.Line.{Line}
use Rattle.serial_log.specs.declared.line.Line.TheVariants as line
use Rattle.serial_log.specs.declared.mark.Mark.{Mark}
use Rattle.serial_log.specs.declared.mark.MarkKind.TheVariants as kind
use Rattle.serial_log.specs.declared.printed.Printed.{Printed}
use Rattle.serial_log.specs.History.{readings_in}
use Rattle.serial_log.specs.Printed.{lines_of}
use Rattle.task_cost.specs.Limits.{bounds_of}
use Rattle.task_syntax.specs.declared.program.Program.{Program}
use Rattle.task_syntax.specs.Course.{Store}
use Rattle.task_syntax.specs.Names.{word_count}
use Rattle.trace_out.specs.BoardText.{history_text}
use Rattle.trace_out.specs.Printed.{IsLine, IsReading, PrintedText, greatest_number, greatest_value}

-- the readings of a line among all
abbrev pub own_readings : List Reading → Line → List Reading
own_readings all (line.Commit committed) = readings_in all committed
own_readings all _ = []

-- how many readings a line has
abbrev pub count_in : Line → ℕ
count_in (line.Commit committed) = committed.reads_len
count_in _ = 0

-- a line whose readings begin here
abbrev pub placed_at : ℕ → Line → Line
placed_at from (line.Commit committed) = line.Commit (record committed { reads_from = from })
placed_at from other = other

-- lines whose readings stand one after another
abbrev pub laid_from : ℕ → List Line → List Line
laid_from from [] = []
laid_from from (first ∷ more) = placed_at from first ∷ laid_from (from + count_in first) more

-- the values of so many words, the first of which is `word`
abbrev pub values_from : (word count : ℕ) → Store → List ℕ
values_from word zero store = []
values_from word (suc count) store = store word ∷ values_from (suc word) count store

-- the readings of a record are among all
abbrev pub HasReadings : List Reading → Line → Type 0
HasReadings all (line.Commit committed) =
    committed.reads_from + committed.reads_len ≤ length all
HasReadings all _ = Unit {0}

-- what a run shows: its marks before the End mark, its end, a store, and how many postings are held
abbrev pub shown_of : Program → Mode → List Mark → List Reading → End → Store → ℕ → Printed
shown_of program mode before readings end store held = record {
  mode = mode;
  bound = (bounds_of program).b;
  lines = laid_from 0 (lines_of before);
  readings = flat_map (own_readings readings) (lines_of before);
  end = end;
  values = values_from 0 (word_count program.vars) store;
  held = held;
}

-- the numbers of a run are in range and of the program
pub record IsShowable (program : Program) (before : List Mark) (readings : List Reading)
    (store : Store) (held : ℕ) : Type 0 where
  pub bound : (bounds_of program).b ≤ greatest_number
  pub only : end_of before ≡ None
  pub lines : AllByRecursion (IsLine program) (lines_of before)
  pub kept : AllByRecursion (HasReadings readings) (lines_of before)
  pub told : AllByRecursion (IsReading program)
      (flat_map (own_readings readings) (lines_of before))
  pub values : (word : ℕ) → word < word_count program.vars → store word ≤ greatest_value
  pub count : held ≤ greatest_number

-- the text of such a run says what the run shows
abbrev pub RunsSayWhatTheyShow : Type 0
RunsSayWhatTheyShow =
    (program : Program) (mode : Mode) (before : List Mark) (readings : List Reading) (at : ℕ)
    (end : End) (store : Store) (held : ℕ) → IsShowable program before readings store held
    → PrintedText program
    (history_text program mode (before ++ record { at = at; kind = kind.End end } ∷ []) readings
    store held)
    (shown_of program mode before readings end store held)
