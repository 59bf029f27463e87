-- What is asked of each line of a printed text, where those before it lead. What a line shows of a
-- history has to be legal there, as in the history itself.
use Rattle.std.specs.Prelude.{ℕ, ◌+◌, ◌≡◌, ◌<◌, List, [], ◌∷◌, length, slice_index}
use Rattle.coati_word.specs.declared.mode.Mode.{Mode}
use Rattle.coati_word.specs.declared.reading.Reading.{Reading}
use Rattle.task_syntax.specs.declared.program.Program.{Program}
use Rattle.task_syntax.specs.Course.{Store}
use Rattle.task_cost.specs.Limits.{handler_bound, period_bound}
use Rattle.serial_log.specs.declared.mark.MarkKind.TheVariants.{End}
use Rattle.serial_log.specs.Standing.{Standing, after_mark}
use Rattle.serial_log.specs.Postings.{Terms}
use Rattle.serial_log.specs.Legal.{IsLegalMark}
use Rattle.serial_log.specs.Printed.{mark_at, mark_of}
use Rattle.coati_replay.specs.Text.{TextLine}

-- what the histories of a program are judged by
abbrev pub terms_of : Program → Mode → Terms
terms_of program mode = record { program = program; mode = mode; handler = handler_bound program }

-- the values are those of the words from this one on
abbrev pub AreWordsFrom : Store → ℕ → List ℕ → Type 0
AreWordsFrom store first values = (k : ℕ) → k < length values →
    slice_index values k ≡ store (first + k)

module _ (program : Program) (mode : Mode) (all : List Reading) where
  -- a line meets its condition
  abbrev pub MeetsCondition : Standing → TextLine → Type 0
  MeetsCondition s (TextLine.mode_is told) = told ≡ mode
  MeetsCondition s (TextLine.bound_is told) = told ≡ period_bound program
  MeetsCondition s (TextLine.shows line) = IsLegalMark (terms_of program mode) all s
      (mark_of line s)
  MeetsCondition s (TextLine.ends end) = IsLegalMark (terms_of program mode) all s
      (mark_at s.latest (End end))
  MeetsCondition s (TextLine.holds first values) = AreWordsFrom s.run.store first values
  MeetsCondition s (TextLine.held_are told) = told ≡ length s.rest

  -- where a line leads
  abbrev pub behind_line : Standing → TextLine → Standing
  behind_line s (TextLine.shows line) = after_mark program s (mark_of line s)
  behind_line s _ = s

  -- where lines lead, one after another
  abbrev pub behind_text : Standing → List TextLine → Standing
  behind_text s [] = s
  behind_text s (line ∷ more) = behind_text (behind_line s line) more

  -- each line meets its condition where those before it lead
  abbrev pub AreMet : Standing → List TextLine → Type 0
  AreMet s [] = Unit {0}
  AreMet s (line ∷ more) = MeetsCondition s line × AreMet (behind_line s line) more
