-- The held entries one by one, and one more at the end.
use Rattle.std.proofs.Common.{◌≡◌, ℕ, zero, suc, ◌+◌, ◌%◌, ◌<◌, ◌≤◌, ◌∙◌, ap, sym, refl, arith, [], List, ◌∷◌, ◌++◌, length, map, Some}
use Rattle.std.specs.Prelude.{slice_get, slice_index}
use Rattle.std.proofs.lemmas.List.{length-map}
use Rattle.nv_memory.specs.State.{State}
use Rattle.nv_memory.specs.Ring.{entry_at, held_count, held_entries, held_slots, oldest, position_after, positions, slot_of, slots_from}
use Rattle.nv_memory.specs.InRange.{InRange, IsRing}
use Rattle.nv_memory.proofs.Held.{held_fit, held_slot_at, position_itself, slots_length}
use Rattle.nv_memory.proofs.Turns.{position_shift}
use Rattle.event_buffer.specs.Held.{slot_behind}

pub held_length : (s : State) → length (held_entries s) ≡ held_count s
held_length s = length-map (held_slots s) (entry_at s) ∙ slots_length s.k (oldest s) (held_count s)

-- the position i further on than the next one is the position i + 1 further on
on : (k from i : ℕ) → (position_after k from + i) % positions k ≡ (from + suc i) % positions k
on k from i = position_shift k from i ∙ ap (λ x. (from + x) % positions k) (let f : i + 1 ≡ suc i = omega arith in f)

entry_among : (s : State) (slots : List ℕ) (i : ℕ) → i < length slots
    → slice_get (map (entry_at s) slots) i ≡ Some (entry_at s (slice_index slots i))
entry_among s [] i l = absurd (omega arith)
entry_among s (slot ∷ slots) zero l = refl
entry_among s (slot ∷ slots) (suc i) l = entry_among s slots i (omega arith)

-- the i-th held entry is that in the i-th of the slots
pub entry_is : (s : State) (i : ℕ) → i < length (held_entries s)
    → slice_get (held_entries s) i ≡ Some (entry_at s (slice_index (held_slots s) i))
entry_is s i l =
    entry_among s (held_slots s) i
    (let long = held_length s in let slots = slots_length s.k (oldest s) (held_count s) in omega (arith, l, long, slots))

-- and stands i positions behind the oldest
pub slot_is : (s : State) (i : ℕ) → IsRing s → i < length (held_entries s) → slice_index (held_slots s) i ≡ slot_behind s i
slot_is s i ring l = held_slot_at s i ring (let long = held_length s in omega (arith, l, long))

-- there are few of them
pub held_few : (s : State) → InRange s → length (held_entries s) ≤ 32
held_few s r = let few = held_fit s r.ring in let long = held_length s in let most = r.sizes.few_entries in omega (arith, few, long, most)

-- one slot more, at the end
pub slots_more : (k from count : ℕ) → from < positions k
    → slots_from k from (suc count) ≡ slots_from k from count ++ slot_of k ((from + count) % positions k) ∷ []
slots_more k from zero low = ap (λ p. slot_of k p ∷ []) (sym (position_itself k from low))
slots_more k from (suc count) low =
    ap (λ rest. slot_of k from ∷ rest) (slots_more k (position_after k from) count (omega arith)
    ∙ ap (λ p. slots_from k (position_after k from) count ++ slot_of k p ∷ []) (on k from count))
