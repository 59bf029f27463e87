-- The oldest posting that waits: it is due, its number tells how many are behind it, and the entry
-- at the head is its. In buffi that entry's log and the kept readings are its event's effect.
use Rattle.std.proofs.Common.{◌≡◌, ℕ, zero, suc, ◌+◌, ◌-◌, ◌<◌, List, [], ◌∷◌, Some, length, refl, sym, ap, subst, ◌∙◌, arith}
use Rattle.coati_word.specs.declared.reading.Reading.{Reading}
use Rattle.task_syntax.specs.declared.program.Program.{Program}
use Rattle.task_syntax.specs.Course.{Store}
use Rattle.event_buffer.proofs.Slots.{held_length}
use Rattle.nv_memory.specs.Ring.{held_count, held_entries, oldest, slot_of, slots_from}
use Rattle.nv_memory.specs.StandsFor.{head_slot}
use Rattle.nv_memory.specs.State.{State}
use Rattle.nv_memory.specs.Words.{mark, mode}
use Rattle.serial_log.specs.declared.held.Held.{Held}
use Rattle.serial_log.specs.Postings.{IsDue, due_posting}
use Rattle.serial_log.specs.Standing.{Standing}
use Rattle.coati_device.specs.HeldEvents.{EventsFit, HoldEvents, HoldsEvent}
use Rattle.coati_device.specs.Points.{AreLastAccepted, AreNumberedFrom, IsEntryOf, StandsFor}
use Rattle.coati_device.specs.Rows.{head_entry}
use Rattle.coati_device.specs.Waits.{first_read}
use Rattle.coati_device.proofs.EventCommits.{held_as_many}
use Rattle.coati_device.proofs.HeadEntry.{oldest_at_head}

-- none is due where none waits
pub none_due : (rest : List Held) (posting : ℕ) → rest ≡ [] → IsDue rest posting → ⊥
none_due [] posting none due = let is = due.due in absurd cc
none_due (held ∷ more) posting none due = absurd cc

-- the one that is due is the first
pub number_due : (rest more : List Held) (held : Held) (posting : ℕ) → rest ≡ held ∷ more →
    IsDue rest posting → held.number ≡ posting
number_due [] more held posting first due = absurd cc
number_due (one ∷ others) more held posting first due =
    let is = due.due in
    let same : held ≡ due.oldest = cc in
    ap (λ (h : Held). h.number) same ∙ due.number

pub first_due : (rest more : List Held) (held : Held) → rest ≡ held ∷ more →
    due_posting rest ≡ Some held
first_due rest more held first = ap due_posting first

module _ (program : Program) (s : State) (standing : Standing)
    (stands : StandsFor program s standing) where
  -- as many wait as entries are held
  pub waiting_count : held_count s ≡ length standing.rest
  waiting_count =
      sym (held_length s) ∙ held_as_many program (held_entries s) standing.rest stands.held

  pub none_wait : held_count s ≡ 0 → standing.rest ≡ []
  none_wait none = by standing.rest (sym waiting_count ∙ none)
    where
      by : (rest : List Held) → length rest ≡ 0 → rest ≡ []
      by [] count = refl
      by (held ∷ more) count = absurd (omega (arith, count))

-- the first of those that wait
pub record IsFirst (program : Program) (s : State) (standing : Standing) (number : ℕ)
    : Type 0 where
  pub held : Held
  pub more : List Held
  pub first : standing.rest ≡ held ∷ more
  pub entry : IsEntryOf program (head_entry s) held
  pub numbered : held.number ≡ number

-- it has the number that the count of accepted ones tells
pub oldest_first : (program : Program) (s : State) (standing : Standing) (accepted : ℕ) →
    StandsFor program s standing → AreLastAccepted standing → standing.accepted ≡ accepted →
    mark s ≡ 0 → 0 < held_count s → IsFirst program s standing (accepted + 1 - held_count s)
oldest_first program s standing accepted stands last counted clear some =
    let oldest = oldest_at_head program s standing.rest clear some stands.held in
    let number = standing.accepted + 1 - length standing.rest in
    let told : AreNumberedFrom number (oldest.held ∷ oldest.more) =
    subst (AreNumberedFrom number) oldest.first last.numbered in
    record {
      held = oldest.held;
      more = oldest.more;
      first = oldest.first;
      entry = oldest.is;
      numbered = told.0
          ∙ ap (λ (n : ℕ). standing.accepted + 1 - n)
          (sym (waiting_count program s standing stands))
          ∙ ap (λ (n : ℕ). n + 1 - held_count s) counted;
    }

-- and is due
pub oldest_due : (program : Program) (s : State) (standing : Standing) (number : ℕ) →
    IsFirst program s standing number → IsDue standing.rest number
oldest_due program s standing number is = record {
  oldest = is.held;
  due = first_due standing.rest is.more is.held is.first;
  number = is.numbered;
}

-- the first of the held events
holds_first : (program : Program) (s : State) (from count : ℕ) (rest more : List Held)
    (held : Held) (reads : List (List Reading)) (store : Store) → 0 < count →
    rest ≡ held ∷ more → HoldEvents program s (slots_from s.k from count) rest reads store →
    HoldsEvent program s (slot_of s.k from) held (first_read reads) store
holds_first program s from zero rest more held reads store some first hold =
    absurd (omega (arith, some))
holds_first program s from (suc count) [] more held reads store some first hold = absurd cc
holds_first program s from (suc count) (one ∷ others) more held [] store some first hold =
    absurd hold
holds_first program s from (suc count) (one ∷ others) more held (read ∷ reads) store some first
    hold =
    let same : one ≡ held = cc in
    subst (λ (h : Held). HoldsEvent program s (slot_of s.k from) h read store) same hold.0

-- in buffi the entry at the head holds the event of the first of those that wait
pub head_holds : (program : Program) (s : State) (standing : Standing)
    (reads : List (List Reading)) (held : Held) (more : List Held) →
    EventsFit program s standing reads → mode s ≡ 1 → mark s ≡ 0 → 0 < held_count s →
    standing.rest ≡ held ∷ more →
    HoldsEvent program s (head_slot s) held (first_read reads) standing.run.store
head_holds program s standing reads held more fits buffi clear some first =
    let at_oldest =
    holds_first program s (oldest s) (held_count s) standing.rest more held reads
    standing.run.store some first (fits buffi) in
    rw clear at at_oldest
