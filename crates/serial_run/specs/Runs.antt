-- The runs of the code as moments.
use Rattle.std.specs.Prelude.{◌≡◌, Bool, false, List, slice_index, slice_index_or, vec_len}
use Rattle.task_syntax.specs.declared.program.Program.{Program}
use Rattle.task_syntax.specs.Names.{word_count}
use Rattle.serial_run.specs.declared.kept.Kept.{Kept}
use Rattle.serial_run.specs.declared.kept.Kept.TheVariants.{Readings, Touches}
use Rattle.serial_run.specs.declared.run.Run.{Run}
use Rattle.serial_run.specs.Moments.{Marks, Notes, Moment}

-- the words that are marked in a list; no word behind it is
abbrev pub marks_of : List Bool → Marks
marks_of marks word = slice_index_or marks word false

abbrev pub kept_of : Kept → Notes
kept_of (Readings before) = Notes.all_readings before.items
kept_of (Touches shared written) = Notes.touched (marks_of shared.items) (marks_of written.items)

abbrev pub moment_of : Run → Moment
moment_of run = record {
  count = vec_len run.words;
  store = slice_index run.words.items;
  kept = kept_of run.kept;
}

-- the run is one of this program
abbrev pub IsRunOf : Program → Run → Type 0
IsRunOf program run = (moment_of run).count ≡ word_count program.vars
