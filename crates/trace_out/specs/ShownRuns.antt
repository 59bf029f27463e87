-- The text of a legal run is serial and legal.
use Rattle.std.specs.Prelude.{◌≡◌, ℕ, List, [], ◌∷◌, ◌++◌, length}
use Rattle.std.specs.List.{AllByRecursion}
use Rattle.serial_log.specs.declared.end.End.{End}
use Rattle.serial_log.specs.declared.mark.Mark.{Mark}
use Rattle.serial_log.specs.declared.mark.MarkKind.TheVariants as kind
use Rattle.serial_log.specs.History.{Past}
use Rattle.serial_log.specs.Legal.{IsLegalHistory}
use Rattle.serial_log.specs.Postings.{Terms}
use Rattle.serial_log.specs.Printed.{IsSerialAndLegal, lines_of}
use Rattle.serial_log.specs.SerialRun.{stand_of}
use Rattle.serial_log.specs.Standing.{rest_of}
use Rattle.task_cost.specs.Limits.{period_bound}
use Rattle.trace_out.specs.ShownRun.{HasReadings, shown_of}

-- the marks stand before an End mark, and each record's readings are there
pub record IsEnded (past : Past) (before : List Mark) (at : ℕ) (end : End) : Type 0 where
  pub last : past.marks ≡ before ++ record { at = at; kind = kind.End end } ∷ []
  pub kept : AllByRecursion (HasReadings past.readings) (lines_of before)

-- what a legal run shows is serial and legal: its store is where its history leads, and the
-- postings that are held are those in no record
abbrev pub LegalRunsShowSerialTexts : Type 0
LegalRunsShowSerialTexts =
    (terms : Terms) (past : Past) (before : List Mark) (at : ℕ) (end : End)
    → IsLegalHistory terms past → IsEnded past before at end
    → IsSerialAndLegal terms (period_bound terms.program)
    (shown_of terms.program terms.mode before past.readings end
    (stand_of terms.program past).store (length (rest_of terms.program past.marks)))
