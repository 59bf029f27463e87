-- The writes of an abort and of its undo leave what memory stands for.
use Rattle.std.proofs.Common.{◌≡◌, ◌≢◌, ◌⊎◌, ℕ, ◌==◌, ◌++◌, [], ◌∷◌, refl, subst, inl, inr, arith, Some, Bool, true, false, if◌then◌else◌}
use Rattle.std.proofs.lemmas.Bool.Decides.{nat_tests}
use Rattle.nv_memory.specs.declared.log.Log.{Log}
use Rattle.nv_memory.specs.declared.log.Log.TheVariants as log
use Rattle.nv_memory.specs.InRange.{InRange, IsClosed}
use Rattle.nv_memory.specs.State.{Change, State, first_undone, put, set_to}
use Rattle.nv_memory.specs.StandsFor.{place_of}
use Rattle.nv_memory.specs.Logs.{IsLog, seats_of, tx_log}
use Rattle.nv_memory.specs.Words.{current, current_seat, doomed, doomed_seat, first, mark, opened, opened_seat, tx_flag_seat}
use Rattle.nv_memory.proofs.Frames.{place_is_free, range_after_free, range_after_header, range_after_tx_flag, ring_kept}
use Rattle.tx_buffer.specs.Clear.{IsCleared, clear_changes, unflag_changes}
use Rattle.tx_buffer.specs.Next.{changes_below}
use Rattle.tx_buffer.proofs.Ends.{cleared}
use Rattle.tx_buffer.proofs.Undone.{head_split, undone_at, undone_split}
use Rattle.buffi_sets.specs.Keeps.{Keeps}
use Rattle.buffi_sets.specs.Undo.{DoomWritesKeep, UndoWritesKeep, doom_change, restart_changes}

pub doom_keeps : DoomWritesKeep
doom_keeps s r closed clear where_ = record {
  meaning = record { words = λ word. rw clear refl; place = refl; held = refl };
  range = range_after_header s 9 1 (λ e. omega (arith, e)) (λ e. omega (arith, e)) r.mark r.opened (omega arith)
      (ring_kept s (put s doom_change) refl refl refl refl refl r.ring) r;
  places = λ tasks p. record { current = p.current; next = p.next; first = p.first };
  closed = record { empty = closed.empty; flags = closed.flags; doomed_mark = λ _. clear; doomed_place = λ _. where_ };
}

-- the transaction log is emptied
emptied_logs : (s : State) (log : Log) → IsLog s (seats_of log) → IsLog (put s (set_to tx_log.length 0)) (seats_of log)
emptied_logs s log.Task l = record { short = l.short; below = l.below; once = l.once }
emptied_logs s log.Tx l = record { short = omega arith; below = λ i low. absurd (omega (arith, low)); once = λ i j low less. absurd (omega (arith, less)) }
emptied_logs s (log.Entry slot) l = record { short = l.short; below = l.below; once = l.once }

emptying_keeps : (s : State) → InRange s → IsClosed s → mark s ≡ 0 → Keeps s (put s (set_to tx_log.length 0))
emptying_keeps s r closed clear = record {
  meaning = record { words = λ word. rw clear refl; place = refl; held = refl };
  range = record {
    sizes = r.sizes;
    mark = r.mark;
    opened = r.opened;
    doomed = r.doomed;
    attempt_flags = r.attempt_flags;
    tx_flags = r.tx_flags;
    logs = λ log has. emptied_logs s log (r.logs log has);
    ring = ring_kept s (put s (set_to tx_log.length 0)) refl refl refl refl refl r.ring;
  };
  places = λ tasks p. record { current = p.current; next = p.next; first = p.first };
  closed = record { empty = λ is_open other word. refl; flags = closed.flags; doomed_mark = closed.doomed_mark; doomed_place = closed.doomed_place };
}

-- a flag is taken back
off_step : (at : ℕ) (b : Bool) → (at == 1) ≡ false → ((if b then 0 else at) == 1) ≡ false
off_step at true e = refl
off_step at false e = e

unflagging_keeps : (s : State) (word : ℕ) → InRange s → IsClosed s → mark s ≡ 0 → Keeps s (put s (set_to (tx_flag_seat word) 0))
unflagging_keeps s word r closed clear = record {
  meaning = record { words = λ other. rw clear refl; place = refl; held = refl };
  range = range_after_tx_flag s word 0 (omega arith) r;
  places = λ tasks p. record { current = p.current; next = p.next; first = p.first };
  closed = record {
    empty = closed.empty;
    flags = λ is_open other_mark other l. off_step (s.at (tx_flag_seat other)) (other == word) (closed.flags is_open other_mark other l);
    doomed_mark = closed.doomed_mark;
    doomed_place = closed.doomed_place;
  };
}

-- the program goes back to the first task
back_place : (s : State) → mark s ≡ 0 → (opened s ≡ 1) ⊎ (current s ≡ first s) → place_of (put s (set_to current_seat (first s))) ≡ place_of s
back_place s clear (inl is_open) = rw (clear, is_open) refl
back_place s clear (inr at) = rw at refl

going_back_keeps : (s : State) → InRange s → IsClosed s → mark s ≡ 0 → doomed s ≡ 1 → Keeps s (put s (set_to current_seat (first s)))
going_back_keeps s r closed clear doom = record {
  meaning = record { words = λ word. rw clear refl; place = back_place s clear (closed.doomed_place doom); held = refl };
  range = range_after_free s current_seat (first s) (place_is_free 1 (inl refl)) r;
  places = λ tasks p. record { current = p.first; next = p.next; first = p.first };
  closed = record { empty = closed.empty; flags = closed.flags; doomed_mark = closed.doomed_mark; doomed_place = λ _. inr refl };
}

-- the transaction is closed
closing_keeps : (s : State) → InRange s → IsClosed s → mark s ≡ 0 → IsCleared s → current s ≡ first s → opened s ≢ 0
    → Keeps s (put s (set_to opened_seat 0))
closing_keeps s r closed clear gone at is_open =
    let is : opened s ≡ 1 = let low = r.opened in omega (arith, low, is_open) in
    record {
      meaning = record { words = λ word. rw clear refl; place = rw (clear, is) at; held = refl };
      range = range_after_header s 3 0 (λ e. omega (arith, e)) (λ e. omega (arith, e)) r.mark (omega arith) r.doomed
          (ring_kept s (put s (set_to opened_seat 0)) refl refl refl refl refl r.ring) r;
      places = λ tasks p. record { current = p.current; next = p.next; first = p.first };
      closed = record {
        empty = λ _ other word. rw gone.empty refl;
        flags = λ _ other. gone.flags;
        doomed_mark = closed.doomed_mark;
        doomed_place = λ _. inr at;
      };
    }

-- the undo is over
ending_keeps : (s : State) → InRange s → IsClosed s → mark s ≡ 0 → Keeps s (put s (set_to doomed_seat 0))
ending_keeps s r closed clear = record {
  meaning = record { words = λ word. rw clear refl; place = refl; held = refl };
  range = range_after_header s 9 0 (λ e. omega (arith, e)) (λ e. omega (arith, e)) r.mark r.opened (omega arith)
      (ring_kept s (put s (set_to doomed_seat 0)) refl refl refl refl refl r.ring) r;
  places = λ tasks p. record { current = p.current; next = p.next; first = p.first };
  closed = record { empty = closed.empty; flags = closed.flags; doomed_mark = λ e. absurd cc; doomed_place = λ e. absurd cc };
}

-- what is said of each change of an undo is said of the next one
clear_kind : (s : State) (change : Change) (P : Change → Type 0) → P (set_to tx_log.length 0) → ((word : ℕ) → P (set_to (tx_flag_seat word) 0))
    → first_undone s (clear_changes s) ≡ Some change → P change
clear_kind s change P empties unflags e = elim (head_split s (set_to tx_log.length 0) change (changes_below unflag_changes s.n) e) [
  | inl here ↦ subst P here.1 empties
  | inr rest ↦ let at = undone_at s unflag_changes s.n change rest.1 in elim (head_split s (set_to (tx_flag_seat at.i) 0) change [] at.here) [
    | inl here ↦ subst P here.1 (unflags at.i)
    | inr none ↦ absurd (let never = none.1 in cc)
  ]
]

restart_kind : (s : State) (change : Change) (P : Change → Type 0) → P (set_to current_seat (first s))
    → (current s ≡ first s → opened s ≢ 0 → P (set_to opened_seat 0)) → P (set_to doomed_seat 0)
    → first_undone s (restart_changes s) ≡ Some change → P change
restart_kind s change P back closes ends e =
    elim (head_split s (set_to current_seat (first s)) change (set_to opened_seat 0 ∷ set_to doomed_seat 0 ∷ []) e) [
      | inl here ↦ subst P here.1 back
      | inr at ↦ elim (head_split s (set_to opened_seat 0) change (set_to doomed_seat 0 ∷ []) at.1) [
        | inl here ↦ subst P here.1 (closes at.0 here.0)
        | inr shut ↦ elim (head_split s (set_to doomed_seat 0) change [] shut.1) [
          | inl here ↦ subst P here.1 ends
          | inr none ↦ absurd (let never = none.1 in cc)
        ]
      ]
    ]

pub undo_kind : (s : State) (change : Change) (P : Change → Type 0) → P (set_to tx_log.length 0) → ((word : ℕ) → P (set_to (tx_flag_seat word) 0))
    → P (set_to current_seat (first s)) → (IsCleared s → current s ≡ first s → opened s ≢ 0 → P (set_to opened_seat 0)) → P (set_to doomed_seat 0)
    → first_undone s (clear_changes s ++ restart_changes s) ≡ Some change → P change
undo_kind s change P empties unflags back closes ends e = elim (undone_split s (clear_changes s) (restart_changes s) change e) [
  | inl here ↦ clear_kind s change P empties unflags here
  | inr rest ↦ restart_kind s change P back (closes (cleared s rest.0)) ends rest.1
]

undo_step : (s : State) (change : Change) (b : Bool) → (doomed s == 1) ≡ b → InRange s → IsClosed s → mark s ≡ 0
    → first_undone s (if b then clear_changes s ++ restart_changes s else []) ≡ Some change → Keeps s (put s change)
undo_step s change false is r closed clear e = absurd cc
undo_step s change true is r closed clear e =
    let doom : doomed s ≡ 1 = grind (arith, nat_tests) in
    undo_kind s change (λ c. Keeps s (put s c)) (emptying_keeps s r closed clear) (λ word. unflagging_keeps s word r closed clear)
    (going_back_keeps s r closed clear doom) (closing_keeps s r closed clear) (ending_keeps s r closed clear) e

pub undo_keeps : UndoWritesKeep
undo_keeps s change r closed clear e = undo_step s change (doomed s == 1) refl r closed clear e
