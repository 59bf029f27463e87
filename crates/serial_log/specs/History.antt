-- A history: what happened, in its order, and what the committed units read. The readings of all
-- records stand in one list.
use Rattle.std.specs.Prelude.{ℕ, ◌+◌, ◌-◌, ◌^◌, ◌<◌, ◌≤◌, ◌≡◌, List, [], ◌∷◌, ◌++◌, length, take, drop}
use Rattle.std.specs.List.{Any}
use Rattle.coati_word.specs.declared.reading.Reading.{Reading}
use Rattle.serial_log.specs.declared.mark.Mark.{Mark}
use Rattle.serial_log.specs.declared.mark.MarkKind.{MarkKind}
use Rattle.serial_log.specs.declared.mark.MarkKind.TheVariants.{Commit}
use Rattle.serial_log.specs.declared.record.Record.{Record}

-- marks and readings, and room for more
pub record Past : Type 0 where
  pub marks : List Mark
  pub mark_room : ℕ
  pub readings : List Reading
  pub reading_room : ℕ

-- the part of all readings that is a record's
abbrev pub readings_in : List Reading → Record → List Reading
readings_in all committed = take committed.reads_len (drop committed.reads_from all)

-- a record's readings are among the first `count`
abbrev pub IsRecordIn : ℕ → MarkKind → Type 0
IsRecordIn count (Commit committed) = committed.reads_from + committed.reads_len ≤ count
IsRecordIn count _ = Unit {0}

-- each record's readings are there
abbrev pub AreRecordsIn : ℕ → List Mark → Type 0
AreRecordsIn count [] = Unit {0}
AreRecordsIn count (mark ∷ more) = IsRecordIn count mark.kind × AreRecordsIn count more

-- what a history keeps
pub record IsKept (marks : List Mark) (readings : List Reading) : Type 0 where
  pub records : AreRecordsIn (length readings) marks
  pub few : length readings < 2 ^ 32

-- the record stands in a Commit mark
abbrev pub HasRecord : Past → Record → Type 0
HasRecord past committed = Any (λ mark. mark.kind ≡ Commit committed) past.marks

-- the history with one mark more
abbrev pub with_mark : Past → Mark → Past
with_mark past mark = record past {
  marks = past.marks ++ mark ∷ [];
  mark_room = past.mark_room - 1;
}

-- the history with one reading more, which is the next record's
abbrev pub with_reading : Past → Reading → Past
with_reading past reading = record past {
  readings = past.readings ++ reading ∷ [];
  reading_room = past.reading_room - 1;
}

-- the room has not become less
pub record IsRoomier (old new : Past) : Type 0 where
  pub marks : old.mark_room ≤ new.mark_room
  pub readings : old.reading_room ≤ new.reading_room
