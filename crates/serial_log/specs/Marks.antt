-- What marks tell, each in the order of the marks: the records, the postings, the boots.
use Rattle.std.specs.Prelude.{ℕ, ◌==◌, List, [], ◌∷◌, flat_map, filter, not, Bool}
use Rattle.std.specs.List.{list_any}
use Rattle.coati_word.specs.declared.reading.Reading.{Reading}
use Rattle.serial_log.specs.declared.mark.Mark.{Mark}
use Rattle.serial_log.specs.declared.mark.MarkKind.{MarkKind}
use Rattle.serial_log.specs.declared.mark.MarkKind.TheVariants.{Boot, Posted, Commit}
use Rattle.serial_log.specs.declared.posted.Posted.{Posted as Raised}
use Rattle.serial_log.specs.declared.posted.Answer.{Answer}
use Rattle.serial_log.specs.declared.posted.Answer.TheVariants.{Accepted}
use Rattle.serial_log.specs.declared.record.Record.{Record}
use Rattle.serial_log.specs.declared.unit.Unit.{Unit as Committed}
use Rattle.serial_log.specs.declared.unit.Unit.TheVariants.{Event}
use Rattle.serial_log.specs.declared.held.Held.{Held}
use Rattle.serial_log.specs.History.{readings_in}

-- a record with its readings
pub record Entry : Type 0 where
  pub committed : Record
  pub reads : List Reading

abbrev pub entries_by : MarkKind → List Reading → List Entry
entries_by (Commit committed) all = record {
  committed = committed;
  reads = readings_in all committed;
} ∷ []
entries_by _ all = []

-- the records with their readings
abbrev pub entries : List Mark → List Reading → List Entry
entries marks all = flat_map (λ mark. entries_by mark.kind all) marks

abbrev pub raised_by : MarkKind → List Raised
raised_by (Posted posted) = posted ∷ []
raised_by _ = []

-- the postings that were raised
abbrev pub raised_postings : List Mark → List Raised
raised_postings marks = flat_map (λ mark. raised_by mark.kind) marks

abbrev pub accepted_as : Raised → Answer → List Held
accepted_as posted (Accepted number) = record {
  number = number;
  event = posted.event;
  argument = posted.argument;
} ∷ []
accepted_as posted _ = []

abbrev pub accepted_by : MarkKind → List Held
accepted_by (Posted posted) = accepted_as posted posted.answer
accepted_by _ = []

-- the postings that were accepted
abbrev pub accepted_postings : List Mark → List Held
accepted_postings marks = flat_map (λ mark. accepted_by mark.kind) marks

abbrev pub posting_of : Committed → ℕ → List ℕ
posting_of (Event event) posting = posting ∷ []
posting_of _ posting = []

abbrev pub recorded_by : MarkKind → List ℕ
recorded_by (Commit committed) = posting_of committed.unit committed.posting
recorded_by _ = []

-- the numbers of the postings whose events were committed
abbrev pub recorded_postings : List Mark → List ℕ
recorded_postings marks = flat_map (λ mark. recorded_by mark.kind) marks

-- none of these is the posting's number
abbrev pub is_unrecorded : List ℕ → Held → Bool
is_unrecorded recorded held = not (list_any (λ number. number == held.number) recorded)

-- the accepted postings that are in no record
abbrev pub unrecorded_postings : List Mark → List Held
unrecorded_postings marks = filter (is_unrecorded (recorded_postings marks))
    (accepted_postings marks)

abbrev pub boot_times_by : ℕ → MarkKind → List ℕ
boot_times_by at (Boot number) = at ∷ []
boot_times_by at _ = []

-- the times of the boots
abbrev pub boot_times : List Mark → List ℕ
boot_times marks = flat_map (λ mark. boot_times_by mark.at mark.kind) marks
