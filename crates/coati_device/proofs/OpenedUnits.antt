-- Whether a unit is open behind each kind of write.
use Rattle.std.proofs.Common.{◌≡◌, ◌==◌, ℕ, zero, suc, refl, ap, sym, ◌∙◌, inl, inr, Bool, true, false, Option, Some, None}
use Rattle.nv_memory.specs.declared.log.Log.TheVariants as log
use Rattle.nv_memory.specs.Logs.{log_index}
use Rattle.nv_memory.specs.Seats.{IsMemory, Memory}
use Rattle.nv_memory.specs.StandsFor.{head_slot}
use Rattle.nv_memory.specs.State.{Change, State, put, state}
use Rattle.nv_memory.specs.Words.{doomed, mark, opened}
use Rattle.commit_log.proofs.Commits.{IsOfCommit}
use Rattle.commit_log.proofs.Commits.IsOfCommit.{into_tx as of_task, unit as of_unit, event as of_event}
use Rattle.task_buffer.specs.Stores.{change_at, store_change}
use Rattle.word_code.specs.Machine.{Move}
use Rattle.word_cpu.specs.declared.cpu.Cpu.{Cpu}
use Rattle.word_cpu.specs.declared.turn.Turn.{Turn}
use Rattle.word_cpu.specs.declared.turn.Turn.TheVariants.{Went, Storing, Ended}
use Rattle.word_cpu.specs.Turning.{Makes}
use Rattle.coati_device.specs.BottomView.{bottom_view, head_log}
use Rattle.coati_device.specs.OpenUnit.{has_unit}
use Rattle.coati_device.specs.Rows.{IsClear}
use Rattle.coati_device.specs.TaskView.{HasWritten}
use Rattle.coati_device.proofs.CommitMarks.{event_marks, into_tx_marks, unit_marks}
use Rattle.coati_device.proofs.MemoryWrites.{state_written}

-- a doomed unit is none
pub none_doomed : (s : State) → (doomed s == 1) ≡ true → has_unit s ≡ false
none_doomed s is = by (mark s == 2) refl
  where
    by : (b : Bool) → (mark s == 2) ≡ b → has_unit s ≡ false
    by true two = rw two refl
    by false other = rw (other, is) refl

-- so an open one isn't doomed
live : (s : State) → has_unit s ≡ true → (doomed s == 1) ≡ false
live s is = by (doomed s == 1) refl
  where
    by : (b : Bool) → (doomed s == 1) ≡ b → (doomed s == 1) ≡ false
    by true doom = absurd (let no : false ≡ true = sym (none_doomed s doom) ∙ is in cc)
    by false doom = doom

-- a unit that is open behind a write of a commit was open before
pub opened_before : (s : State) (change : Change) → IsOfCommit s change →
    has_unit (put s change) ≡ true → has_unit s ≡ true
opened_before s change (of_task one write) is =
    let same = (into_tx_marks s one change write).same_doom in
    let alive : (doomed s == 1) ≡ false =
    ap (λ (d : ℕ). d == 1) (sym same) ∙ live (put s change) is in
    rw (one, alive) refl
opened_before s change (of_unit two write) is =
    let marks = unit_marks s two change write in
    let alive = live (put s change) is in
    elim marks.mark_now [
      | inl goes ↦ let none : has_unit (put s change) ≡ false = rw goes refl in absurd cc
      | inr ends ↦
          let none : has_unit (put s change) ≡ false = rw (ends.0, alive, ends.1) refl in absurd cc
    ]
opened_before s change (of_event three write) is =
    let marks = event_marks s three change write in
    let alive = live (put s change) is in
    let before : (doomed s == 1) ≡ false =
    ap (λ (d : ℕ). d == 1) (sym marks.same_doom) ∙ alive in
    let same : opened (put s change) ≡ opened s = elim marks.open_now [ inl e ↦ e | inr e ↦ e ] in
    let here : has_unit s ≡ (opened s == 1) = rw (three, before) refl in
    let there : has_unit (put s change) ≡ (opened s == 1) =
    elim marks.mark_now [
      | inl goes ↦ rw (goes, alive, same) refl
      | inr ends ↦ rw (ends.0, alive, same) refl
    ] in
    here ∙ sym there ∙ is

-- where neither a commit nor an undo is under way, a unit is open exactly where a transaction is
pub none_open : (s : State) → IsClear s → (opened s == 1) ≡ false → has_unit s ≡ false
none_open s clear shut = rw (clear.mark, clear.doomed, shut) refl

pub one_open : (s : State) → IsClear s → opened s ≡ 1 → has_unit s ≡ true
one_open s clear is = rw (clear.mark, clear.doomed, is) refl

-- none is open where one would have been before
pub shut_still : (s t : State) → (has_unit t ≡ true → has_unit s ≡ true) → has_unit s ≡ false →
    has_unit t ≡ false
shut_still s t before none = by (has_unit t) refl
  where
    by : (b : Bool) → has_unit t ≡ b → has_unit t ≡ false
    by true is = absurd (let no : false ≡ true = sym none ∙ before is in cc)
    by false is = is

-- no part of a store into a log of the ring opens a unit
part_opens_none : (s : State) (slot word value part : ℕ) (at : Option ℕ) →
    has_unit (put s (change_at s (log.Entry slot) word value part at)) ≡ has_unit s
part_opens_none s slot word value part (Some i) = refl
part_opens_none s slot word value zero None = refl
part_opens_none s slot word value (suc zero) None = refl
part_opens_none s slot word value (suc (suc more)) None = refl

module _ (before after : Cpu) (m new : Memory) (memory : IsMemory m) where
  part_made : (word value part : ℕ) →
      HasWritten m (store_change (state m) (head_log (state m)) word value part) new →
      has_unit (state new) ≡ has_unit (state m)
  part_made word value part wrote =
      let s = state m in
      ap has_unit (state_written m new (store_change s (head_log s) word value part) memory wrote)
      ∙ part_opens_none s (head_slot s) word value part (log_index s (head_log s) word)

  -- nor does a step of a bottom half
  pub move_opens_none : (turn : Turn) (move : Move) →
      Makes bottom_view before after m new turn move → has_unit (state new) ≡ has_unit (state m)
  move_opens_none turn (Move.goes next) made = ap (λ (x : Memory). has_unit (state x)) made.view
  move_opens_none turn (Move.loads word next) made =
      ap (λ (x : Memory). has_unit (state x)) made.view
  move_opens_none (Went None) (Move.stores word value next) made =
      part_made word value before.part made.view.wrote
  move_opens_none (Went (Some reading)) (Move.stores word value next) made = absurd made
  move_opens_none Storing (Move.stores word value next) made =
      part_made word value before.part made.view.wrote
  move_opens_none (Ended ending) (Move.stores word value next) made = absurd made
  move_opens_none turn (Move.ends ending) made = ap (λ (x : Memory). has_unit (state x)) made.view
