-- Laws of histories.
use Rattle.std.specs.Prelude.{ℕ, ◌≡◌, List, [], ◌∷◌, ◌++◌, map, length, ◌⊎◌}
use mathlib.Core.List.{IsPrefix}
use Rattle.coati_word.specs.declared.reading.Reading.{Reading}
use Rattle.task_syntax.specs.declared.program.Program.{Program}
use Rattle.serial_log.specs.declared.mark.Mark.{Mark}
use Rattle.serial_log.specs.declared.unit.Unit.{Unit as Committed}
use Rattle.serial_log.specs.declared.held.Held.{Held}
use Rattle.serial_log.specs.History.{Past, IsRecordIn, AreRecordsIn}
use Rattle.serial_log.specs.Marks.{Entry, entries, raised_postings, accepted_postings, unrecorded_postings, boot_times}
use Rattle.serial_log.specs.SerialRun.{SerialRun, stand_of, AreSerial, opening_stand}
use Rattle.serial_log.specs.Standing.{standing_of, after_mark, rest_of, EachMark}
use Rattle.serial_log.specs.Postings.{Terms, KeepsPostings, ArePostingsLegal}
use Rattle.serial_log.specs.Aborts.{AreAbortsLegal}
use Rattle.serial_log.specs.Boots.{AreBootsCounted}
use Rattle.serial_log.specs.Legal.{IsLegalMark, AreMarksLegal, IsLegalHistory}
use Rattle.serial_log.specs.Progresses.{IsOfTasks, awaited_by, awaited_of, IsServedFirst, ServesAborts, settled_after, settled_of, ServesSettled, ServesBetweenUnits, ServesAll, ServesAtOnce}

-- a history goes on by a mark
pub record GoesOnBy (terms : Terms) (all : List Reading) (marks : List Mark) (mark : Mark)
    : Type 0 where
  pub standing : standing_of terms.program (marks ++ mark ∷ [])
      ≡ after_mark terms.program (standing_of terms.program marks) mark
  pub legal : AreMarksLegal terms all marks →
      IsLegalMark terms all (standing_of terms.program marks) mark →
      AreMarksLegal terms all (marks ++ mark ∷ [])
  pub records : AreRecordsIn (length all) marks → IsRecordIn (length all) mark.kind →
      AreRecordsIn (length all) (marks ++ mark ∷ [])

-- a legal mark behind legal marks makes legal marks, and they stand for one step more
abbrev pub HistoriesGoOn : Type 0
HistoriesGoOn = (terms : Terms) (all : List Reading) (marks : List Mark) (mark : Mark) →
    GoesOnBy terms all marks mark

-- how a history takes turns with a mark more
pub record TakesTurnsBy (program : Program) (marks : List Mark) (mark : Mark) : Type 0 where
  pub awaited : awaited_of (marks ++ mark ∷ []) ≡ awaited_by (awaited_of marks) mark.kind
  pub aborts : ServesAborts marks → IsServedFirst (awaited_of marks) mark.kind →
      ServesAborts (marks ++ mark ∷ [])
  pub settled : settled_of program (marks ++ mark ∷ [])
      ≡ settled_after program (settled_of program marks) mark
  pub split : ServesBetweenUnits program marks → ServesSettled (settled_of program marks) mark →
      ServesBetweenUnits program (marks ++ mark ∷ [])
  pub buffi : ServesAtOnce program marks → ServesAll (standing_of program marks) mark →
      ServesAtOnce program (marks ++ mark ∷ [])

-- so with each mark
abbrev pub TurnsGoOn : Type 0
TurnsGoOn = (program : Program) (marks : List Mark) (mark : Mark) → TakesTurnsBy program marks mark

-- what joined marks tell
pub record TellsBoth (first more : List Mark) : Type 0 where
  pub records : (all : List Reading) → entries (first ++ more) all ≡ entries first all
      ++ entries more all
  pub raised : raised_postings (first ++ more) ≡ raised_postings first ++ raised_postings more
  pub accepted : accepted_postings (first ++ more) ≡ accepted_postings first
      ++ accepted_postings more
  pub boots : boot_times (first ++ more) ≡ boot_times first ++ boot_times more

-- so do all marks
abbrev pub MarksJoinUp : Type 0
MarksJoinUp = (first more : List Mark) → TellsBoth first more

-- readings that are added leave those of the records before
abbrev pub RecordsKeepReadings : Type 0
RecordsKeepReadings = (all more : List Reading) (marks : List Mark) →
    AreRecordsIn (length all) marks → entries marks (all ++ more) ≡ entries marks all

-- and marks stay legal
abbrev pub LegalMarksStay : Type 0
LegalMarksStay =
    (terms : Terms) (all more : List Reading) (marks : List Mark) →
    AreRecordsIn (length all) marks → AreMarksLegal terms all marks →
    AreMarksLegal terms (all ++ more) marks

-- what a legal history is, fact by fact
pub record KeepsEachFact (terms : Terms) (past : Past) : Type 0 where
  pub serial : SerialRun terms.program past
  pub stand : stand_of terms.program past ≡ (standing_of terms.program past.marks).run
  pub postings : ArePostingsLegal terms past.marks
  pub aborts : AreAbortsLegal terms past.marks
  pub boots : AreBootsCounted terms.program past.marks

-- The serial run is told in its own words: over all accepted postings, and of records alone.
abbrev pub LegalHistoriesKeepEachFact : Type 0
LegalHistoriesKeepEachFact = (terms : Terms) (past : Past) → IsLegalHistory terms past →
    KeepsEachFact terms past

-- where postings are legal, the rest is those accepted that are in no record
abbrev pub RestIsUnrecorded : Type 0
RestIsUnrecorded =
    (terms : Terms) (marks : List Mark) → EachMark terms.program (KeepsPostings terms) marks →
    rest_of terms.program marks ≡ unrecorded_postings marks

-- Two legal histories of a program with the same accepted postings and the same records have the
-- same store and place.
abbrev pub CommitsTellTheStand : Type 0
CommitsTellTheStand =
    (terms : Terms) (one other : Past) → IsLegalHistory terms one → IsLegalHistory terms other →
    accepted_postings one.marks ≡ accepted_postings other.marks →
    entries one.marks one.readings ≡ entries other.marks other.readings →
    (standing_of terms.program one.marks).run ≡ (standing_of terms.program other.marks).run

-- what a record tells: its unit, its tasks, its readings
pub record Told : Type 0 where
  pub unit : Committed
  pub tasks : ℕ
  pub reads : List Reading

abbrev pub told_of : Entry → Told
told_of entry = record {
  unit = entry.committed.unit;
  tasks = entry.committed.tasks;
  reads = entry.reads;
}

-- no record is an event's
abbrev pub HaveNoEvent : List Entry → Type 0
HaveNoEvent [] = Unit {0}
HaveNoEvent (entry ∷ more) = IsOfTasks entry.committed.unit × HaveNoEvent more

-- one list goes on where the other ends
abbrev pub Agree : List Told → List Told → Type 0
Agree xs ys = IsPrefix xs ys ⊎ IsPrefix ys xs

-- two serial runs of a program without events agree as far as both go, whatever was accepted
abbrev pub SerialRunsAgree : Type 0
SerialRunsAgree =
    (program : Program) (accepted others : List Held) (xs ys : List Entry) → HaveNoEvent xs →
    HaveNoEvent ys →
    AreSerial program accepted (opening_stand program) xs →
    AreSerial program others (opening_stand program) ys → Agree (map told_of xs) (map told_of ys)
