-- Which aborts are legal: a unit is given up for an event that writes what the unit has read.
use Rattle.std.specs.Prelude.{ℕ, ◌≡◌, ◌≤◌, List, true, Some, Contains}
use Rattle.coati_word.specs.declared.mode.Mode.TheVariants.{Buffi}
use Rattle.task_syntax.specs.declared.program.Program.{Program}
use Rattle.task_syntax.specs.Course.{Access, written_words}
use Rattle.task_syntax.specs.Units.{Reached, first_task, tasks_effect}
use Rattle.task_syntax.specs.Written.{is_shared}
use Rattle.task_syntax.specs.Events.{event_effect}
use Rattle.serial_log.specs.declared.mark.Mark.{Mark}
use Rattle.serial_log.specs.declared.mark.MarkKind.{MarkKind}
use Rattle.serial_log.specs.declared.mark.MarkKind.TheVariants.{Abort}
use Rattle.serial_log.specs.declared.abort.AbortOf.{AbortOf}
use Rattle.serial_log.specs.declared.unit.Unit.{Unit as Committed}
use Rattle.serial_log.specs.declared.unit.Unit.TheVariants.{Task, Transaction, Event}
use Rattle.serial_log.specs.declared.held.Held.{Held}
use Rattle.serial_log.specs.SerialRun.{Stand, IsLone}
use Rattle.serial_log.specs.Standing.{Standing, EachMark}
use Rattle.serial_log.specs.Postings.{Terms, due_posting}

-- the unit of tasks that begins at a place
abbrev pub IsUnitAt : Program → ℕ → Committed → Type 0
IsUnitAt program place (Task task) = (place ≡ task) × IsLone program task
IsUnitAt program place (Transaction tx) = first_task program tx ≡ Some place
IsUnitAt program place (Event event) = ⊥

-- an event writes the word, and tasks read it before they wrote it
pub record IsClash (event tasks : List Access) (word : ℕ) : Type 0 where
  pub written : Contains (written_words event) word
  pub shared : is_shared tasks word ≡ true

-- the least such word
pub record IsLeastClash (event tasks : List Access) (word : ℕ) : Type 0 where
  pub clash : IsClash event tasks word
  pub least : (other : ℕ) → IsClash event tasks other → word ≤ other

-- The word is the least on which a posting's event clashes with the first `count` tasks of the
-- unit at the place. That these tasks run says that the unit isn't whole earlier.
pub record IsClashWord (program : Program) (stand : Stand) (count : ℕ) (held : Held) (word : ℕ)
    : Type 0 where
  pub reached : Reached
  pub tasks : tasks_effect program stand.place stand.store count ≡ Some reached
  pub least : IsLeastClash (event_effect program held.event held.argument stand.store)
      reached.done word

-- A unit is given up, in mode buffi alone, for the event that is due.
pub record IsAbortLegal (terms : Terms) (s : Standing) (aborted : AbortOf) : Type 0 where
  pub mode : terms.mode ≡ Buffi
  pub unit : IsUnitAt terms.program s.run.place aborted.unit
  pub held : Held
  pub due : due_posting s.rest ≡ Some held
  pub posting : held.number ≡ aborted.posting
  pub word : IsClashWord terms.program s.run aborted.tasks held aborted.word

abbrev pub KeepsAborts : Terms → Standing → MarkKind → Type 0
KeepsAborts terms s (Abort aborted) = IsAbortLegal terms s aborted
KeepsAborts terms s _ = Unit {0}

-- the aborts of a history are legal
abbrev pub AreAbortsLegal : Terms → List Mark → Type 0
AreAbortsLegal terms marks = EachMark terms.program (λ s mark. KeepsAborts terms s mark.kind) marks
