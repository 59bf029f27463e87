-- What the writes of commits make of the mark, of the doom, of the mode, and of whether a
-- transaction is open.
use Rattle.std.proofs.Common.{◌≡◌, ◌⊎◌, ℕ, refl, sym, subst, inl, inr, false}
use Rattle.nv_memory.specs.State.{Change, State, is_same, put}
use Rattle.nv_memory.specs.Words.{doomed, doomed_seat, mark, mark_seat, mode, mode_seat, opened, opened_seat}
use Rattle.tx_buffer.proofs.MergeWrites.{IsMergeWrite, merge_write}
use Rattle.tx_buffer.proofs.MergeWrites.IsMergeWrite.{renews, numbers, values, lengths, joins}
use Rattle.commit_log.proofs.Applying.{IsUnitWrite}
use Rattle.commit_log.proofs.Applying.IsUnitWrite.{applies, drops_tx, drops_task, unflags, closes, arrives, clears}
use Rattle.commit_log.proofs.Merging.{IsIntoTxWrite}
use Rattle.commit_log.proofs.Taking.{IsEventWrite}
use Rattle.commit_log.proofs.Taking.IsEventWrite.{lands, frees, rests}

-- until the commit of a marker ends its mark stays; then a transaction is open or not, as told here
pub record MarksAfter (marker open_then : ℕ) (old new : State) : Type 0 where
  pub same_doom : doomed new ≡ doomed old
  pub same_mode : mode new ≡ mode old
  pub open_now : (opened new ≡ opened old) ⊎ (opened new ≡ open_then)
  pub mark_now : (mark new ≡ marker) ⊎ ((mark new ≡ 0) × (opened new ≡ open_then))

module _ (s : State) (marker open_then : ℕ) (at : mark s ≡ marker) where
  abbrev Marks : Change → Type 0
  Marks change = MarksAfter marker open_then s (put s change)

  -- a write elsewhere
  elsewhere : (change seen : Change) → change ≡ seen → is_same mark_seat seen.seat ≡ false →
      is_same opened_seat seen.seat ≡ false → is_same doomed_seat seen.seat ≡ false →
      is_same mode_seat seen.seat ≡ false → Marks change
  elsewhere change seen is marks opens dooms modes = subst Marks (sym is) (record {
    same_doom = rw dooms refl;
    same_mode = rw modes refl;
    open_now = inl (rw opens refl);
    mark_now = inl (rw marks at);
  })

module _ (s : State) (one : mark s ≡ 1) where
  merge_marks : (change : Change) → IsMergeWrite s change → MarksAfter 1 1 s (put s change)
  merge_marks change (renews i at first there differs is) =
      elsewhere s 1 1 one change _ is refl refl refl refl
  merge_marks change (numbers i first absent differs is) =
      elsewhere s 1 1 one change _ is refl refl refl refl
  merge_marks change (values i first absent named differs is) =
      elsewhere s 1 1 one change _ is refl refl refl refl
  merge_marks change (lengths i first absent named valued is) =
      elsewhere s 1 1 one change _ is refl refl refl refl
  merge_marks change (joins word before low set differs is) =
      elsewhere s 1 1 one change _ is refl refl refl refl

  pub into_tx_marks : (change : Change) → IsIntoTxWrite s change → MarksAfter 1 1 s (put s change)
  into_tx_marks change (IsIntoTxWrite.merges next) = merge_marks change (merge_write s change next)
  into_tx_marks change (IsIntoTxWrite.firsts shut differs is) =
      elsewhere s 1 1 one change _ is refl refl refl refl
  into_tx_marks change (IsIntoTxWrite.opens shut same is) =
      subst (λ (c : Change). MarksAfter 1 1 s (put s c)) (sym is)
      (record { same_doom = refl; same_mode = refl; open_now = inr refl; mark_now = inl one })
  into_tx_marks change (IsIntoTxWrite.leads is_open differs is) =
      elsewhere s 1 1 one change _ is refl refl refl refl
  into_tx_marks change (IsIntoTxWrite.empties is_open merged some is) =
      elsewhere s 1 1 one change _ is refl refl refl refl
  into_tx_marks change (IsIntoTxWrite.clears is_open there merged empty is) =
      subst (λ (c : Change). MarksAfter 1 1 s (put s c)) (sym is)
      (record {
        same_doom = refl;
        same_mode = refl;
        open_now = inl refl;
        mark_now = inr
            (refl, is_open);
      })

module _ (s : State) (two : mark s ≡ 2) where
  pub unit_marks : (change : Change) → IsUnitWrite s change → MarksAfter 2 0 s (put s change)
  unit_marks change (applies word) = elsewhere s 2 0 two change _ word.is refl refl refl refl
  unit_marks change (drops_tx applied some is) = elsewhere s 2 0 two change _ is refl refl refl refl
  unit_marks change (drops_task applied empty some is) =
      elsewhere s 2 0 two change _ is refl refl refl refl
  unit_marks change (unflags word empty low set is) =
      elsewhere s 2 0 two change _ is refl refl refl refl
  unit_marks change (closes empty flags is_open is) =
      subst (λ (c : Change). MarksAfter 2 0 s (put s c)) (sym is)
      (record { same_doom = refl; same_mode = refl; open_now = inr refl; mark_now = inl two })
  unit_marks change (arrives empty flags shut differs is) =
      elsewhere s 2 0 two change _ is refl refl refl refl
  unit_marks change (clears empty flags shut there is) =
      subst (λ (c : Change). MarksAfter 2 0 s (put s c)) (sym is)
      (record {
        same_doom = refl;
        same_mode = refl;
        open_now = inl refl;
        mark_now = inr
            (refl, shut);
      })

module _ (s : State) (three : mark s ≡ 3) where
  pub event_marks : (change : Change) → IsEventWrite s change →
      MarksAfter 3 (opened s) s (put s change)
  event_marks change (lands word) =
      elsewhere s 3 (opened s) three change _ word.is refl refl refl refl
  event_marks change (frees applied differs is) =
      elsewhere s 3 (opened s) three change _ is refl refl refl refl
  event_marks change (rests there is) =
      subst (λ (c : Change). MarksAfter 3 (opened s) s (put s c)) (sym is)
      (record {
        same_doom = refl;
        same_mode = refl;
        open_now = inl refl;
        mark_now = inr
            (refl, refl);
      })
