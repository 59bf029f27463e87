-- What a write of an undo does to the effort.
use Rattle.std.proofs.Common.{◌≡◌, ◌==◌, ◌<◌, ◌++◌, refl, sym, ◌∙◌, arith, Some, Bool, true, false, [], if◌then◌else◌}
use Rattle.nv_memory.specs.InRange.{InRange, IsClosed}
use Rattle.nv_memory.specs.Ring.{held_count}
use Rattle.nv_memory.specs.State.{Change, State, first_undone, put}
use Rattle.nv_memory.specs.Words.{doomed, mark}
use Rattle.tx_buffer.specs.Clear.{clear_changes}
use Rattle.buffi_sets.specs.Undo.{restart_changes, undo_changes, undo_left}
use Rattle.buffi_sets.proofs.Ending.{undo_ends}
use Rattle.buffi_sets.proofs.Undoing.{undo_keeps, undo_kind}
use Rattle.coati_device.specs.OpenUnit.{has_unit}
use Rattle.coati_device.proofs.UndoRows.{after_undo}
use Rattle.device_pace.specs.Effort.{place_behind, writes_under_way}
use Rattle.device_pace.proofs.Places.{same_place}
use Rattle.device_pace.proofs.Writes.{same_held}

mark_by : (s : State) (change : Change) (b : Bool) →
    first_undone s (if b then clear_changes s ++ restart_changes s else []) ≡ Some change →
    mark (put s change) ≡ mark s
mark_by s change false next = absurd cc
mark_by s change true next =
    undo_kind s change (λ (c : Change). mark (put s c) ≡ mark s) refl (λ word. refl) refl
    (λ cleared there opened. refl) refl next

pub clear_undo : (s : State) → mark s ≡ 0 → writes_under_way s ≡ undo_left s
clear_undo s clear = rw clear refl

pub record Undoes (s t : State) : Type 0 where
  pub doomed : doomed s ≡ 1
  pub fewer : writes_under_way t < writes_under_way s
  pub held : held_count t ≡ held_count s
  pub place : place_behind t ≡ place_behind s

pub undoes : (s : State) (change : Change) → InRange s → IsClosed s → mark s ≡ 0 →
    first_undone s (undo_changes s) ≡ Some change → Undoes s (put s change)
undoes s change range closed clear next =
    let t = put s change in
    let after = after_undo s change clear next in
    let keeps = undo_keeps s change range closed clear next in
    let still : mark t ≡ 0 = mark_by s change (doomed s == 1) next ∙ clear in
    let less = (undo_ends s).falls change next in
    let before : has_unit s ≡ false = rw (clear, after.0) refl in
    record {
      doomed = after.0;
      fewer = omega (arith, less, clear_undo s clear, clear_undo t still);
      held = same_held s t keeps.meaning.held;
      place = same_place s t (after.1.no_unit ∙ sym before) keeps.meaning.place;
    }
