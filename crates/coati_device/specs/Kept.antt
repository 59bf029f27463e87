-- The readings that are kept until their unit is committed, and how a commit tells them.
use Rattle.std.specs.Prelude.{ℕ, ◌+◌, ◌-◌, List, [], ◌∷◌, ◌++◌, length, Option, Some, None}
use Rattle.coati_word.specs.declared.reading.Reading.{Reading}
use Rattle.serial_log.specs.declared.mark.Mark.{Mark}
use Rattle.serial_log.specs.declared.mark.MarkKind.TheVariants.{Abort, Commit}
use Rattle.serial_log.specs.declared.record.Record.{Record}
use Rattle.serial_log.specs.declared.unit.Unit.{Unit}
use Rattle.serial_log.specs.declared.unit.Unit.TheVariants as unit
use Rattle.serial_log.specs.History.{Past, with_mark}
use Rattle.word_cpu.specs.declared.turn.Turn.{Turn}
use Rattle.word_cpu.specs.declared.turn.Turn.TheVariants.{Went, Storing, Ended}

-- readings, and room for more
pub record Kept : Type 0 where
  pub items : List Reading
  pub room : ℕ

-- the readings with more behind them
abbrev pub adding : Kept → List Reading → Kept
adding kept more = record { items = kept.items ++ more; room = kept.room - length more }

-- no readings, in the same room
abbrev pub emptied : Kept → Kept
emptied kept = record { items = []; room = kept.room + length kept.items }

-- with what a step of the machine read
abbrev pub after_turn : Kept → Turn → Kept
after_turn kept (Went None) = kept
after_turn kept (Went (Some reading)) = adding kept (reading ∷ [])
after_turn kept Storing = kept
after_turn kept (Ended ending) = kept

-- the unit of a task: its transaction, or the lone task itself
abbrev pub unit_of : Option ℕ → ℕ → Unit
unit_of None task = unit.Task task
unit_of (Some tx) task = unit.Transaction tx

-- the record of a unit of so many tasks with so many readings, from a place on in the list of all
abbrev pub record_of_unit : Unit → (tasks from count : ℕ) → Record
record_of_unit of_tasks tasks from count =
    record { unit = of_tasks; tasks = tasks; posting = 0; reads_from = from; reads_len = count }

-- the record of an event's posting
abbrev pub record_of_event : (event posting from count : ℕ) → Record
record_of_event event posting from count =
    record {
      unit = unit.Event event;
      tasks = 0;
      posting = posting;
      reads_from = from;
      reads_len = count;
    }

-- the history with the abort of a unit that had run so many tasks, for a posting's event that
-- clashes with them on a word
abbrev pub with_abort : Past → Unit → (tasks posting word : ℕ) → ℕ → Past
with_abort past of_tasks tasks posting word at = with_mark past (record {
  at = at;
  kind = Abort (record { unit = of_tasks; tasks = tasks; posting = posting; word = word });
})

-- the history with the commit of an event's posting that read this
abbrev pub with_event : Past → (event posting : ℕ) → List Reading → ℕ → Past
with_event past event posting reads at = record {
  marks = past.marks ++ record {
    at = at;
    kind =
        Commit (record_of_event event posting (length past.readings) (length reads));
  } ∷ [];
  mark_room = past.mark_room - 1;
  readings = past.readings ++ reads;
  reading_room = past.reading_room - length reads;
}

-- the commit of a unit of so many tasks that read this, behind these readings of records before it
abbrev pub unit_commit : List Reading → Unit → ℕ → List Reading → ℕ → Mark
unit_commit all of_tasks tasks reads at =
    record { at = at; kind = Commit (record_of_unit of_tasks tasks (length all) (length reads)) }

-- the history with it
abbrev pub with_commit : Past → Unit → ℕ → List Reading → ℕ → Past
with_commit past of_tasks tasks reads at = record {
  marks = past.marks ++ unit_commit past.readings of_tasks tasks reads at ∷ [];
  mark_room = past.mark_room - 1;
  readings = past.readings ++ reads;
  reading_room = past.reading_room - length reads;
}
