-- The record of the event of the oldest posting that waits is the next one: in split where its
-- bottom half has ended, in buffi where it ran in its handler.
use Rattle.std.proofs.Common.{◌≡◌, ℕ, ◌+◌, ◌-◌, ◌<◌, List, ◌∷◌, length, refl, ap, sym, ◌∙◌}
use Rattle.coati_word.specs.declared.reading.Reading.{Reading}
use Rattle.task_syntax.specs.declared.program.Program.{Program}
use Rattle.task_syntax.specs.Course.{Store, readings}
use Rattle.task_syntax.specs.Events.{event_effect}
use Rattle.nv_memory.specs.Ring.{held_count}
use Rattle.nv_memory.specs.Seats.{Memory}
use Rattle.nv_memory.specs.StandsFor.{committed_word}
use Rattle.nv_memory.specs.State.{State, state}
use Rattle.nv_memory.specs.Words.{mark, mode}
use Rattle.codegen.specs.Bodies.{program_code}
use Rattle.serial_log.specs.declared.held.Held.{Held}
use Rattle.serial_log.specs.Postings.{IsDue}
use Rattle.serial_log.specs.SerialRun.{IsEventNext, posting_numbered}
use Rattle.serial_log.specs.Standing.{Standing}
use Rattle.coati_device.specs.declared.device.Phase.TheVariants.{EndBottom}
use Rattle.coati_device.specs.HeldEvents.{EventsFit}
use Rattle.coati_device.specs.Kept.{record_of_event}
use Rattle.coati_device.specs.Points.{AreLastAccepted, IsFit, Reads, StandsFor}
use Rattle.coati_device.specs.Rows.{head_entry}
use Rattle.coati_device.specs.Waits.{first_read}
use Rattle.coati_device.proofs.AwaitedEvents.{IsFirst, head_holds, oldest_due, oldest_first}
use Rattle.coati_device.proofs.EventCommits.{first_of, numbered_first}
use Rattle.coati_device.proofs.UnitGrows.{pointwise}

-- the record of the event of a posting with these readings, behind all others, is the next one,
-- and the posting is due
pub record IsServed (program : Program) (standing : Standing) (event number : ℕ)
    (all read : List Reading) : Type 0 where
  pub next : IsEventNext program standing.rest standing.run event
      (record {
        committed = record_of_event event number (length all) (length read);
        reads = read;
      })
  pub due : IsDue standing.rest number

-- what an event reads on a store
abbrev reads_on : Program → Held → Store → List Reading
reads_on program held store = readings (event_effect program held.event held.argument store)

-- so it is with the first of those that wait, where it read this
first_served : (program : Program) (s : State) (standing : Standing) (number : ℕ)
    (all read : List Reading) (first : IsFirst program s standing number) →
    read ≡ reads_on program first.held standing.run.store →
    IsServed program standing (head_entry s).event number all read
first_served program s standing number all read first reads = record {
  next = record {
    no_tasks = refl;
    held = first.held;
    posting = ap (posting_numbered number) first.first
        ∙ numbered_first first.held first.more number first.numbered;
    its_event = sym first.entry.event;
    reads =
        reads
        ∙ ap (λ (of : ℕ).
        readings (event_effect program of first.held.argument standing.run.store))
        (sym first.entry.event);
  };
  due = oldest_due program s standing number first;
}

-- two that are the first are the same
same_first : (rest more others : List Held) (one other : Held) → rest ≡ one ∷ more →
    rest ≡ other ∷ others → one ≡ other
same_first rest more others one other first second = cc

module _ (program : Program) (m : Memory) (reads : Reads) (standing : Standing) (accepted : ℕ)
    (all : List Reading)
    (fit : IsFit program (program_code program) m reads EndBottom standing)
    (counted : standing.accepted ≡ accepted) where
  abbrev s : State
  s = state m

  abbrev number : ℕ
  number = accepted + 1 - held_count s

  -- where the bottom half has ended in split
  pub ended_is_served : IsServed program standing (head_entry s).event number all reads.attempt
  ended_is_served =
      let at = fit.attempt.at in
      let first =
      oldest_first program s standing accepted fit.stands fit.waiting counted at.clear.mark
      at.events.held in
      let is_due = first_of standing.rest at.held at.due in
      let same : at.held ≡ first.held =
      same_first standing.rest is_due.0 first.more at.held first.held is_due.1 first.first in
      let store : committed_word s ≡ standing.run.store =
      pointwise (committed_word s) standing.run.store fit.stands.words in
      first_served program s standing number all reads.attempt first
      (fit.attempt.made.reads
      ∙ ap (reads_on program at.held) store
      ∙ ap (λ (held : Held). reads_on program held standing.run.store) same)

-- in buffi, with what was kept of its handler
pub drained_is_served : (program : Program) (s : State) (standing : Standing) (accepted : ℕ)
    (all : List Reading) (kept : List (List Reading)) → StandsFor program s standing →
    AreLastAccepted standing → standing.accepted ≡ accepted →
    EventsFit program s standing kept → mode s ≡ 1 → mark s ≡ 0 → 0 < held_count s →
    IsServed program standing (head_entry s).event (accepted + 1 - held_count s) all
    (first_read kept)
drained_is_served program s standing accepted all kept stands last counted events buffi clear
    some =
    let first = oldest_first program s standing accepted stands last counted clear some in
    let holds =
    head_holds program s standing kept first.held first.more events buffi clear some first.first in
    first_served program s standing (accepted + 1 - held_count s) all (first_read kept) first
    holds.reads
