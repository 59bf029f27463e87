-- The serial run of a program over its committed units: each runs whole and alone, on what those
-- before it left.
use Rattle.std.specs.Prelude.{ℕ, ◌≡◌, ◌==◌, ◌<◌, List, [], ◌∷◌, length, slice_index, find, Option, Some, None}
use Rattle.std.specs.Option.{option_map_or}
use Rattle.task_syntax.specs.declared.program.Program.{Program}
use Rattle.task_syntax.specs.Course.{Store, after, readings}
use Rattle.task_syntax.specs.Names.{opening_values, tasks}
use Rattle.task_syntax.specs.Units.{Reached, transaction_of, first_task, task_effect, whole_effect}
use Rattle.task_syntax.specs.Events.{event_effect}
use Rattle.serial_log.specs.declared.held.Held.{Held}
use Rattle.serial_log.specs.declared.record.Record.{Record}
use Rattle.serial_log.specs.declared.unit.Unit.{Unit as Committed}
use Rattle.serial_log.specs.declared.unit.Unit.TheVariants.{Task, Transaction, Event}
use Rattle.serial_log.specs.History.{Past}
use Rattle.serial_log.specs.Marks.{Entry, entries, accepted_postings}

-- where a run stands: its store, and its place in the program
pub record Stand : Type 0 where
  pub store : Store
  pub place : ℕ

-- the opening store, and task 0
abbrev pub opening_stand : Program → Stand
opening_stand program = record { store = slice_index (opening_values program); place = 0 }

-- the posting of a number
abbrev pub posting_numbered : ℕ → List Held → Option Held
posting_numbered number postings = find (λ held. held.number == number) postings

-- where tasks lead
abbrev pub behind_tasks : Stand → Reached → Stand
behind_tasks stand reached = record {
  store = after reached.done stand.store;
  place = reached.place;
}

-- where an event leads: the place stays
abbrev pub behind_event : Program → Stand → Held → Stand
behind_event program stand held = record stand {
  store =
      after (event_effect program held.event held.argument stand.store) stand.store;
}

-- where a record's unit leads, by the accepted postings; nowhere where it isn't there
abbrev pub behind_unit : Program → List Held → Stand → Record → Committed → Stand
behind_unit program accepted stand committed (Task task) =
    behind_tasks stand (task_effect program task stand.store)
behind_unit program accepted stand committed (Transaction tx) =
    option_map_or (behind_tasks stand) (whole_effect program stand.place stand.store
    committed.tasks) stand
behind_unit program accepted stand committed (Event event) =
    option_map_or (behind_event program stand) (posting_numbered committed.posting accepted) stand

-- where a record leads
abbrev pub behind_record : Program → List Held → Stand → Record → Stand
behind_record program accepted stand committed =
    behind_unit program accepted stand committed committed.unit

-- where records lead, one after another
abbrev pub behind_entries : Program → List Held → Stand → List Entry → Stand
behind_entries program accepted stand [] = stand
behind_entries program accepted stand (entry ∷ more) =
    behind_entries program accepted (behind_record program accepted stand entry.committed) more

-- the task is there, and in no transaction
pub record IsLone (program : Program) (task : ℕ) : Type 0 where
  pub there : task < length (tasks program)
  pub alone : transaction_of program task ≡ None

-- the record is the lone task of the place, with what it reads there
pub record IsTaskNext (program : Program) (stand : Stand) (task : ℕ) (entry : Entry) : Type 0 where
  pub place : stand.place ≡ task
  pub lone : IsLone program task
  pub one_task : entry.committed.tasks ≡ 1
  pub no_posting : entry.committed.posting ≡ 0
  pub reads : entry.reads ≡ readings (task_effect program task stand.store).done

-- the record is the transaction that begins at the place, whole, with what it reads there
pub record IsTransactionNext (program : Program) (stand : Stand) (tx : ℕ) (entry : Entry)
    : Type 0 where
  pub place : first_task program tx ≡ Some stand.place
  pub no_posting : entry.committed.posting ≡ 0
  pub reached : Reached
  pub whole : whole_effect program stand.place stand.store entry.committed.tasks ≡ Some reached
  pub reads : entry.reads ≡ readings reached.done

-- the record is the event of an accepted posting, with what it reads there
pub record IsEventNext (program : Program) (accepted : List Held) (stand : Stand) (event : ℕ)
    (entry : Entry) : Type 0 where
  pub no_tasks : entry.committed.tasks ≡ 0
  pub held : Held
  pub posting : posting_numbered entry.committed.posting accepted ≡ Some held
  pub its_event : held.event ≡ event
  pub reads : entry.reads ≡ readings (event_effect program event held.argument stand.store)

abbrev pub IsUnitNext : Program → List Held → Stand → Entry → Committed → Type 0
IsUnitNext program accepted stand entry (Task task) = IsTaskNext program stand task entry
IsUnitNext program accepted stand entry (Transaction tx) = IsTransactionNext program stand tx entry
IsUnitNext program accepted stand entry (Event event) =
    IsEventNext program accepted stand event entry

-- the record is the next one
abbrev pub IsNext : Program → List Held → Stand → Entry → Type 0
IsNext program accepted stand entry = IsUnitNext program accepted stand entry entry.committed.unit

-- each record is the next one where those before it lead
abbrev pub AreSerial : Program → List Held → Stand → List Entry → Type 0
AreSerial program accepted stand [] = Unit {0}
AreSerial program accepted stand (entry ∷ more) =
    IsNext program accepted stand entry × AreSerial program accepted
    (behind_record program accepted stand entry.committed) more

-- the records of a history are a serial run of the program over its accepted postings
abbrev pub SerialRun : Program → Past → Type 0
SerialRun program past = AreSerial program (accepted_postings past.marks) (opening_stand program)
    (entries past.marks past.readings)

-- the store and the place to which it leads
abbrev pub stand_of : Program → Past → Stand
stand_of program past = behind_entries program (accepted_postings past.marks)
    (opening_stand program) (entries past.marks past.readings)
