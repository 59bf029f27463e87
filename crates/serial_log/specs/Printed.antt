-- Which printed texts are serial and legal. A line shows a mark, but neither a Done mark nor the
-- time of a commit or an abort.
use Rattle.std.specs.Prelude.{ℕ, ◌≡◌, ◌<◌, List, [], ◌∷◌, flat_map, length, slice_index}
use Rattle.coati_word.specs.declared.reading.Reading.{Reading}
use Rattle.task_syntax.specs.Names.{word_count}
use Rattle.serial_log.specs.declared.line.Line.{Line}
use Rattle.serial_log.specs.declared.line.Line.TheVariants as line
use Rattle.serial_log.specs.declared.printed.Printed.{Printed}
use Rattle.serial_log.specs.declared.mark.Mark.{Mark}
use Rattle.serial_log.specs.declared.mark.MarkKind.{MarkKind}
use Rattle.serial_log.specs.declared.mark.MarkKind.TheVariants.{Boot, Posted, Commit, Abort, End}
use Rattle.serial_log.specs.Standing.{Standing, opening, after_mark}
use Rattle.serial_log.specs.Postings.{Terms}
use Rattle.serial_log.specs.Legal.{IsLegalMark}

-- the lines that show a mark; the end has a line of its own
abbrev pub shown_as : ℕ → MarkKind → List Line
shown_as at (Boot number) = line.Boot number at ∷ []
shown_as at (Posted posted) = line.Post at posted ∷ []
shown_as at (Commit committed) = line.Commit committed ∷ []
shown_as at (Abort aborted) = line.Abort aborted ∷ []
shown_as at _ = []

-- the lines of a history
abbrev pub lines_of : List Mark → List Line
lines_of marks = flat_map (λ mark. shown_as mark.at mark.kind) marks

abbrev pub mark_at : ℕ → MarkKind → Mark
mark_at at kind = record { at = at; kind = kind }

-- the mark that a line shows; where it tells no time, that is the latest time told
abbrev pub mark_of : Line → Standing → Mark
mark_of (line.Boot number at) s = mark_at at (Boot number)
mark_of (line.Post at posted) s = mark_at at (Posted posted)
mark_of (line.Commit committed) s = mark_at s.latest (Commit committed)
mark_of (line.Abort aborted) s = mark_at s.latest (Abort aborted)

module _ (terms : Terms) (all : List Reading) where
  -- where lines lead
  abbrev pub behind_lines : Standing → List Line → Standing
  behind_lines s [] = s
  behind_lines s (first ∷ more) = behind_lines (after_mark terms.program s (mark_of first s)) more

  -- each line shows a mark that is legal where those before it lead
  abbrev pub AreLinesLegal : Standing → List Line → Type 0
  AreLinesLegal s [] = Unit {0}
  AreLinesLegal s (first ∷ more) = IsLegalMark terms all s (mark_of first s)
      × AreLinesLegal (after_mark terms.program s (mark_of first s)) more

-- what the lines of a printed text lead to
abbrev pub told_by : Terms → Printed → Standing
told_by terms printed = behind_lines terms printed.readings (opening terms.program) printed.lines

-- the values of the variable words are those of the store
pub record AreValuesOf (terms : Terms) (values : List ℕ) (s : Standing) : Type 0 where
  pub count : length values ≡ word_count terms.program.vars
  pub each : (word : ℕ) → word < length values → slice_index values word ≡ s.run.store word

-- each line of a printed text meets its condition, for the mode and the bound on progress
pub record IsSerialAndLegal (terms : Terms) (bound : ℕ) (printed : Printed) : Type 0 where
  pub mode : printed.mode ≡ terms.mode
  pub bounds : printed.bound ≡ bound
  pub lines : AreLinesLegal terms printed.readings (opening terms.program) printed.lines
  pub end : IsLegalMark terms printed.readings (told_by terms printed)
      (mark_at (told_by terms printed).latest (End printed.end))
  pub values : AreValuesOf terms printed.values (told_by terms printed)
  pub held : printed.held ≡ length (told_by terms printed).rest
