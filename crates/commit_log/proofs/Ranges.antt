-- Ranges after the writes of commits.
use Rattle.std.proofs.Common.{◌≡◌, ℕ, ◌<◌, ◌≤◌, ◌==◌, ◌&&◌, not, refl, arith, Bool, true, false}
use Rattle.nv_memory.proofs.Looks.{test_same}
use Rattle.nv_memory.specs.InRange.{InRange, IsRing}
use Rattle.nv_memory.specs.State.{State, put, set_to}
use Rattle.nv_memory.specs.Words.{head_seat, head_next, mark, mark_seat, opened_seat, tail}
use Rattle.nv_memory.specs.Ring.{is_taking, positions_between}
use Rattle.nv_memory.proofs.Frames.{range_after_header, ring_kept}
use Rattle.nv_memory.proofs.Held.{held_fit}

-- the ring is as it was where the marker is cleared and the head's entry isn't taken
cleared_ring : (s : State) → IsRing s → is_taking s ≡ false → IsRing (put s (set_to mark_seat 0))
cleared_ring s ring free = record {
  head_low = ring.head_low;
  next_low = ring.next_low;
  tail_low = ring.tail_low;
  few = λ _. ring.few free;
  taken_some = λ e. absurd cc;
  taken_few = λ e. absurd cc;
  taken_follows = λ e. absurd cc;
}

pub range_cleared : (s : State) → InRange s → is_taking s ≡ false → InRange (put s (set_to mark_seat 0))
range_cleared s r free =
    range_after_header s 0 0 (omega arith) (omega arith) (omega arith) r.opened r.doomed (cleared_ring s r.ring free) r

pub range_opened : (s : State) (value : ℕ) → value < 2 → InRange s → InRange (put s (set_to opened_seat value))
range_opened s value low r = range_after_header s 3 value (omega arith) (omega arith) r.mark low r.doomed
    (ring_kept s (put s (set_to opened_seat value)) refl refl refl refl refl r.ring) r

-- the head is moved behind the entry that was taken
not_taking : (s : State) → is_taking (put s (set_to head_seat (head_next s))) ≡ false
not_taking s = taking_step (mark s == 3) (head_next s)
  where
    taking_step : (b : Bool) (x : ℕ) → (b && not (x == x)) ≡ false
    taking_step true x = rw (test_same x x refl) refl
    taking_step false x = refl

pub range_freed : (s : State) → mark s ≡ 3 → InRange s → InRange (put s (set_to head_seat (head_next s)))
range_freed s three r =
    let fits : positions_between s.k (head_next s) (tail s) ≤ s.k = rw three at (held_fit s r.ring) in
    let t = put s (set_to head_seat (head_next s)) in
    range_after_header s 6 (head_next s) (omega arith) (omega arith) r.mark r.opened r.doomed (record {
      head_low = r.ring.next_low;
      next_low = r.ring.next_low;
      tail_low = r.ring.tail_low;
      few = λ _. fits;
      taken_some = λ e. let no = not_taking s in absurd cc;
      taken_few = λ e. let no = not_taking s in absurd cc;
      taken_follows = λ e. let no = not_taking s in absurd cc;
    }) r
