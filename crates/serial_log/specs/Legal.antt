-- Which histories are legal. Each fact is one about a mark where those before it lead, so a
-- printed text can be judged line by line. Not told by marks alone, and so not here: the script,
-- the clock, and how soon a run goes on.
use Rattle.std.specs.Prelude.{◌≡◌, List, []}
use Rattle.coati_word.specs.declared.reading.Reading.{Reading}
use Rattle.task_syntax.specs.declared.program.Program.{Program}
use Rattle.task_syntax.specs.Units.{halt}
use Rattle.serial_log.specs.declared.mark.Mark.{Mark}
use Rattle.serial_log.specs.declared.mark.MarkKind.{MarkKind}
use Rattle.serial_log.specs.declared.mark.MarkKind.TheVariants.{Boot, Posted, Done, Commit, Abort}
use Rattle.serial_log.specs.declared.mark.MarkKind.TheVariants as kind
use Rattle.serial_log.specs.declared.end.End.{End}
use Rattle.serial_log.specs.declared.end.End.TheVariants.{Idle, Limit}
use Rattle.serial_log.specs.History.{Past, readings_in}
use Rattle.serial_log.specs.SerialRun.{IsNext}
use Rattle.serial_log.specs.Standing.{Standing, EachMark}
use Rattle.serial_log.specs.Postings.{Terms, KeepsPostings, IsBooted}
use Rattle.serial_log.specs.Aborts.{KeepsAborts}
use Rattle.serial_log.specs.Boots.{KeepsBoots}

-- a commit is the next record of the serial run
abbrev pub KeepsSerial : Program → List Reading → Standing → MarkKind → Type 0
KeepsSerial program all s (Commit committed) =
    IsNext program s.rest s.run (record {
      committed = committed;
      reads = readings_in all committed;
    })
KeepsSerial program all s _ = Unit {0}

-- nothing is left to do
pub record IsDoneWith (s : Standing) : Type 0 where
  pub place : s.run.place ≡ halt
  pub rest : s.rest ≡ []

abbrev pub IsEndLegal : Standing → End → Type 0
IsEndLegal s Idle = IsDoneWith s
IsEndLegal s Limit = Unit {0}

abbrev pub KeepsEnd : Standing → MarkKind → Type 0
KeepsEnd s (kind.End end) = IsEndLegal s end
KeepsEnd s _ = Unit {0}

-- one mark is legal where those before it lead
pub record IsLegalMark (terms : Terms) (all : List Reading) (s : Standing) (mark : Mark)
    : Type 0 where
  pub serial : KeepsSerial terms.program all s mark.kind
  pub postings : KeepsPostings terms s mark
  pub aborts : KeepsAborts terms s mark.kind
  pub boots : KeepsBoots s mark.at mark.kind
  pub end : KeepsEnd s mark.kind

-- each mark is legal
abbrev pub AreMarksLegal : Terms → List Reading → List Mark → Type 0
AreMarksLegal terms all marks = EachMark terms.program (IsLegalMark terms all) marks

-- each mark is legal, and no lost posting lacks its boot
pub record IsLegalHistory (terms : Terms) (past : Past) : Type 0 where
  pub marks : AreMarksLegal terms past.readings past.marks
  pub booted : IsBooted terms.program past.marks
