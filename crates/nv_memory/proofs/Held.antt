-- The held entries and their slots.
use Rattle.std.proofs.Common.{◌≡◌, ◌≢◌, ℕ, zero, suc, ◌+◌, ◌-◌, ◌%◌, ◌<◌, ◌≤◌, ◌∙◌, ap, sym, subst, refl, arith, add-zero, length, Bool, true, false, if◌then◌else◌, ◌==◌}
use Rattle.std.specs.Prelude.{slice_index}
use Rattle.std.proofs.Math.Nat.{mod-eq_of_lt}
use Rattle.std.proofs.lemmas.Bool.Decides.{nat_tests}
use Rattle.nv_memory.specs.State.{State}
use Rattle.nv_memory.specs.Words.{head, head_next, mark, tail}
use Rattle.nv_memory.specs.Ring.{held_count, held_slots, is_taking, oldest, position_after, positions, positions_between, slot_of, slots_from}
use Rattle.nv_memory.specs.InRange.{IsRing}
use Rattle.nv_memory.proofs.Turns.{between_less, end_is, position_shift, slots_differ}

pub slots_length : (k from count : ℕ) → length (slots_from k from count) ≡ count
slots_length k from zero = refl
slots_length k from (suc count) = ap suc (slots_length k (position_after k from) count)

-- a position is its own remainder
pub position_itself : (k from : ℕ) → from < positions k → (from + 0) % positions k ≡ from
position_itself k from low = ap (λ x. x % positions k) (add-zero from) ∙ mod-eq_of_lt low

-- the i-th of the slots is that of the position i further on
pub slot_at : (k from count i : ℕ) → from < positions k → i < count → slice_index (slots_from k from count) i ≡ slot_of k ((from + i) % positions k)
slot_at k from zero i low l = absurd (omega arith)
slot_at k from (suc count) zero low l = ap (slot_of k) (sym (position_itself k from low))
slot_at k from (suc count) (suc i) low l =
    slot_at k (position_after k from) count i (omega arith) (omega arith)
    ∙ ap (slot_of k) (position_shift k from i ∙ ap (λ x. (from + x) % positions k) (let f : i + 1 ≡ suc i = omega arith in f))

-- the positions in the header are in range
oldest_step : (s : State) (b : Bool) → IsRing s → (if b then head_next s else head s) < positions s.k
oldest_step s true ring = ring.next_low
oldest_step s false ring = ring.head_low

pub oldest_low : (s : State) → IsRing s → oldest s < positions s.k
oldest_low s ring = oldest_step s (mark s == 3) ring

held_step : (s : State) (marked same : Bool) → (mark s == 3) ≡ marked → (head s == head_next s) ≡ same → IsRing s
    → positions_between s.k (if marked then head_next s else head s) (tail s) ≤ s.k
held_step s false same m e ring = ring.few (let no : is_taking s ≡ false = grind (arith, nat_tests) in no)
held_step s true true m e ring =
    let one : head s ≡ head_next s = grind (arith, nat_tests) in
    subst (λ (from : ℕ). positions_between s.k from (tail s) ≤ s.k) one
    (ring.few (let no : is_taking s ≡ false = grind (arith, nat_tests) in no))
held_step s true false m e ring =
    let yes : is_taking s ≡ true = grind (arith, nat_tests) in
    let some = ring.taken_some yes in
    let few = ring.taken_few yes in
    let n = positions_between s.k (head s) (tail s) - 1 in
    let less : positions_between s.k (position_after s.k (head s)) (tail s) ≡ n =
    between_less s.k (head s) (tail s) n ring.head_low ring.tail_low (omega (arith, some)) in
    subst (λ (from : ℕ). positions_between s.k from (tail s) ≤ s.k) (sym (ring.taken_follows yes))
    (rw less (omega (arith, few, some)))

-- no more are held than the buffer has room for
pub held_fit : (s : State) → IsRing s → held_count s ≤ s.k
held_fit s ring = held_step s (mark s == 3) (head s == head_next s) refl refl ring

pub held_slot_at : (s : State) (i : ℕ) → IsRing s → i < held_count s → slice_index (held_slots s) i ≡ slot_of s.k ((oldest s + i) % positions s.k)
held_slot_at s i ring l = slot_at s.k (oldest s) (held_count s) i (oldest_low s ring) l

-- the slots of the held entries differ
pub held_slots_differ : (s : State) (i j : ℕ) → IsRing s → i < j → j < held_count s → slice_index (held_slots s) i ≢ slice_index (held_slots s) j
held_slots_differ s i j ring less l = λ e.
    let few = held_fit s ring in
    slots_differ s.k (oldest s) i j (oldest_low s ring) less (omega (arith, l, few))
    (sym (held_slot_at s i ring (omega (arith, less, l))) ∙ e ∙ held_slot_at s j ring l)

-- the tail is where the held entries end
pub tail_is : (s : State) → IsRing s → tail s ≡ (oldest s + held_count s) % positions s.k
tail_is s ring = end_is s.k (oldest s) (tail s) (oldest_low s ring) ring.tail_low

-- so its slot is none of theirs
pub tail_slot_is_free : (s : State) (i : ℕ) → IsRing s → i < held_count s → slice_index (held_slots s) i ≢ slot_of s.k (tail s)
tail_slot_is_free s i ring l = λ e.
    slots_differ s.k (oldest s) i (held_count s) (oldest_low s ring) l (held_fit s ring)
    (sym (held_slot_at s i ring l) ∙ e ∙ ap (slot_of s.k) (tail_is s ring))

taking_marked : (s : State) → is_taking s ≡ true → (mark s == 3) ≡ true
taking_marked s e = grind (arith, nat_tests)

-- the entry that is taken stands one position before the held ones
pub taken_slot_is_not_held : (s : State) (i : ℕ) → IsRing s → is_taking s ≡ true → i < held_count s → slice_index (held_slots s) i ≢ slot_of s.k (head s)
taken_slot_is_not_held s i ring taking l = λ e.
    let begin : oldest s ≡ position_after s.k (head s) =
    ap (λ (b : Bool). if b then head_next s else head s) (taking_marked s taking) ∙ ring.taken_follows taking in
    let few = held_fit s ring in
    let here : slot_of s.k ((head s + (i + 1)) % positions s.k) ≡ slot_of s.k (head s) =
    ap (slot_of s.k) (sym (position_shift s.k (head s) i) ∙ ap (λ (p : ℕ). (p + i) % positions s.k) (sym begin)) ∙ sym (held_slot_at s i ring l) ∙ e in
    slots_differ s.k (head s) 0 (i + 1) ring.head_low (omega arith) (omega (arith, l, few))
    (ap (slot_of s.k) (position_itself s.k (head s) ring.head_low) ∙ sym here)
