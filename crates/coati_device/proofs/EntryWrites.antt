-- The writes of commits, of undos and of stores leave the held entries, which are in no word that
-- they write.
use Rattle.std.proofs.Common.{◌≡◌, ℕ, zero, suc, ◌==◌, ◌++◌, Bool, true, false, Option, Some, None, if◌then◌else◌, [], refl, sym, subst, inl, inr}
use Rattle.nv_memory.specs.declared.log.Log.TheVariants as log
use Rattle.nv_memory.specs.Logs.{log_index}
use Rattle.nv_memory.specs.Seats.{Seat}
use Rattle.nv_memory.specs.State.{Change, State, first_undone, put, set_to}
use Rattle.nv_memory.specs.Words.{doomed, head, head_next, head_next_seat, head_seat, mark, mark_seat}
use Rattle.tx_buffer.specs.Clear.{clear_changes}
use Rattle.tx_buffer.proofs.MergeWrites.{IsMergeWrite, merge_write}
use Rattle.tx_buffer.proofs.MergeWrites.IsMergeWrite.{renews, numbers, values, lengths, joins}
use Rattle.tx_buffer.proofs.Undone.{head_split, undone_at}
use Rattle.buffi_sets.specs.Flags.{unflag_attempt_changes, unflag_change}
use Rattle.buffi_sets.specs.Undo.{restart_changes, undo_changes}
use Rattle.buffi_sets.proofs.Undoing.{undo_kind}
use Rattle.buffi_sets.proofs.Unflagging.{each}
use Rattle.task_buffer.specs.Stores.{change_at, part_change, store_change}
use Rattle.commit_log.specs.Laws.{IsCommitWrite}
use Rattle.commit_log.proofs.Applying.{IsUnitWrite}
use Rattle.commit_log.proofs.Applying.IsUnitWrite.{applies, drops_tx, drops_task, unflags, closes, arrives, clears}
use Rattle.commit_log.proofs.Commits.{IsOfCommit, commit_of}
use Rattle.commit_log.proofs.Commits.IsOfCommit.{into_tx, unit, event}
use Rattle.commit_log.proofs.Merging.{IsIntoTxWrite}
use Rattle.commit_log.proofs.Taking.{IsEventWrite}
use Rattle.commit_log.proofs.Taking.IsEventWrite.{lands, frees, rests}
use Rattle.coati_device.proofs.HeldLogs.{KeepsEntries}

module _ (s : State) where
  abbrev pub Kept : Change → Type 0
  Kept change = KeepsEntries s (put s change)

  -- a write into a part of the image beside the header and the entries
  pub part_kept : (part at value : ℕ) → Kept (set_to (Seat.Part part at) value)
  part_kept part at value =
      record { same_mode = refl; slots = refl; values = λ slot word. refl }

  -- the place that comes next is written
  pub place_kept : (value : ℕ) → Kept (set_to (Seat.Header 2) value)
  place_kept value = record { same_mode = refl; slots = refl; values = λ slot word. refl }

  pub doom_kept : (value : ℕ) → Kept (set_to (Seat.Header 9) value)
  doom_kept value = record { same_mode = refl; slots = refl; values = λ slot word. refl }

  pub task_log_kept : (value : ℕ) → Kept (set_to (Seat.Header 4) value)
  task_log_kept value = record { same_mode = refl; slots = refl; values = λ slot word. refl }

  tx_log_kept : (value : ℕ) → Kept (set_to (Seat.Header 5) value)
  tx_log_kept value = record { same_mode = refl; slots = refl; values = λ slot word. refl }

  current_kept : (value : ℕ) → Kept (set_to (Seat.Header 1) value)
  current_kept value = record { same_mode = refl; slots = refl; values = λ slot word. refl }

  opened_kept : (value : ℕ) → Kept (set_to (Seat.Header 3) value)
  opened_kept value = record { same_mode = refl; slots = refl; values = λ slot word. refl }

  first_kept : (value : ℕ) → Kept (set_to (Seat.Header 10) value)
  first_kept value = record { same_mode = refl; slots = refl; values = λ slot word. refl }

  -- the mark, before and behind a commit that is none of an event
  pub mark_kept : (value : ℕ) → (mark s == 3) ≡ false → (value == 3) ≡ false →
      Kept (set_to mark_seat value)
  mark_kept value before behind =
      record { same_mode = refl; slots = rw (before, behind) refl; values = λ slot word. refl }

  -- the position behind the head, where no event's commit is under way
  pub prepared_kept : (value : ℕ) → mark s ≡ 0 → Kept (set_to head_next_seat value)
  prepared_kept value clear =
      record { same_mode = refl; slots = rw clear refl; values = λ slot word. refl }

  -- the head goes on in an event's commit
  head_kept : mark s ≡ 3 → Kept (set_to head_seat (head_next s))
  head_kept three =
      record { same_mode = refl; slots = rw three refl; values = λ slot word. refl }

  -- which ends there
  rest_kept : mark s ≡ 3 → head s ≡ head_next s → Kept (set_to mark_seat 0)
  rest_kept three same =
      record { same_mode = refl; slots = rw (three, same) refl; values = λ slot word. refl }

  merge_kept : (change : Change) → IsMergeWrite s change → Kept change
  merge_kept change (renews i at first there differs is) = subst Kept (sym is) (part_kept 4 at _)
  merge_kept change (numbers i first absent differs is) = subst Kept (sym is) (part_kept 3 _ _)
  merge_kept change (values i first absent named differs is) =
      subst Kept (sym is) (part_kept 4 _ _)
  merge_kept change (lengths i first absent named valued is) = subst Kept (sym is) (tx_log_kept _)
  merge_kept change (joins word before low set differs is) = subst Kept (sym is) (part_kept 6 _ _)

  into_tx_kept : mark s ≡ 1 → (change : Change) → IsIntoTxWrite s change → Kept change
  into_tx_kept one change (IsIntoTxWrite.merges next) =
      merge_kept change (merge_write s change next)
  into_tx_kept one change (IsIntoTxWrite.firsts shut differs is) =
      subst Kept (sym is) (first_kept _)
  into_tx_kept one change (IsIntoTxWrite.opens shut same is) = subst Kept (sym is) (opened_kept _)
  into_tx_kept one change (IsIntoTxWrite.leads is_open differs is) =
      subst Kept (sym is) (current_kept _)
  into_tx_kept one change (IsIntoTxWrite.empties is_open merged some is) =
      subst Kept (sym is) (task_log_kept _)
  into_tx_kept one change (IsIntoTxWrite.clears is_open there merged empty is) =
      subst Kept (sym is) (mark_kept 0 (rw one refl) refl)

  unit_kept : mark s ≡ 2 → (change : Change) → IsUnitWrite s change → Kept change
  unit_kept two change (applies word) = subst Kept (sym word.is) (part_kept 0 _ _)
  unit_kept two change (drops_tx applied some is) = subst Kept (sym is) (tx_log_kept _)
  unit_kept two change (drops_task applied empty some is) = subst Kept (sym is) (task_log_kept _)
  unit_kept two change (unflags word empty low set is) = subst Kept (sym is) (part_kept 6 _ _)
  unit_kept two change (closes empty flags is_open is) = subst Kept (sym is) (opened_kept _)
  unit_kept two change (arrives empty flags shut differs is) =
      subst Kept (sym is) (current_kept _)
  unit_kept two change (clears empty flags shut there is) =
      subst Kept (sym is) (mark_kept 0 (rw two refl) refl)

  event_kept : mark s ≡ 3 → (change : Change) → IsEventWrite s change → Kept change
  event_kept three change (lands word) = subst Kept (sym word.is) (part_kept 0 _ _)
  event_kept three change (frees applied differs is) = subst Kept (sym is) (head_kept three)
  event_kept three change (rests there is) = subst Kept (sym is) (rest_kept three there)

  kept_in_commit : (change : Change) → IsOfCommit s change → Kept change
  kept_in_commit change (into_tx one writes) = into_tx_kept one change writes
  kept_in_commit change (unit two writes) = unit_kept two change writes
  kept_in_commit change (event three writes) = event_kept three change writes

  -- each write of a commit
  pub commit_kept : (change : Change) → IsCommitWrite s change → Kept change
  commit_kept change is = kept_in_commit change (commit_of s change is)

  kept_in_undo : (change : Change) (is : Bool) →
      first_undone s (if is then clear_changes s ++ restart_changes s else []) ≡ Some change →
      Kept change
  kept_in_undo change false next = absurd cc
  kept_in_undo change true next =
      undo_kind s change Kept (tx_log_kept 0) (λ word. part_kept 6 word 0) (current_kept _)
      (λ cleared back shut. opened_kept 0) (doom_kept 0) next

  -- each write of an undo
  pub undo_kept : (change : Change) → first_undone s (undo_changes s) ≡ Some change → Kept change
  undo_kept change next = kept_in_undo change (doomed s == 1) next

  -- a flag of the attempt that is taken back
  pub unflag_kept : (change : Change) →
      first_undone s (unflag_attempt_changes s) ≡ Some change → Kept change
  unflag_kept change next =
      let at = undone_at s each s.n change next in
      elim (head_split s (unflag_change at.i) change [] at.here) [
        | inl here ↦ subst Kept here.1 (part_kept 5 at.i 0)
        | inr none ↦ absurd (let never = none.1 in cc)
      ]

  kept_in_part : (word value part : ℕ) → Kept (part_change s log.Task word value part)
  kept_in_part word value zero = part_kept 1 _ word
  kept_in_part word value (suc zero) = part_kept 2 _ value
  kept_in_part word value (suc (suc more)) = task_log_kept _

  kept_at : (word value part : ℕ) (at : Option ℕ) → Kept (change_at s log.Task word value part at)
  kept_at word value part (Some i) = part_kept 2 i value
  kept_at word value part None = kept_in_part word value part

  -- a part of a store into the task's log
  pub store_kept : (word value part : ℕ) → Kept (store_change s log.Task word value part)
  store_kept word value part = kept_at word value part (log_index s log.Task word)
