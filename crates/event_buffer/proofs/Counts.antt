-- How many positions there are from the head on.
use Rattle.std.proofs.Common.{◌≡◌, ◌≢◌, ℕ, ◌+◌, ◌-◌, ◌<◌, ◌==◌, ◌∙◌, ap, refl, arith, Bool, true, false, if◌then◌else◌, length}
use Rattle.std.proofs.lemmas.Bool.Decides.{nat_tests}
use Rattle.nv_memory.specs.State.{State}
use Rattle.nv_memory.specs.Words.{head, head_next, mark, tail}
use Rattle.nv_memory.specs.Ring.{held_count, held_entries, is_taking, oldest, position_after, positions_between, slot_of}
use Rattle.nv_memory.specs.InRange.{IsRing}
use Rattle.nv_memory.proofs.Held.{held_fit, position_itself}
use Rattle.nv_memory.proofs.Turns.{between_less, end_is, slots_differ}
use Rattle.nv_memory.proofs.Looks.{test_same}
use Rattle.event_buffer.specs.Fill.{is_full}
use Rattle.event_buffer.proofs.Slots.{held_length}

pub room_is : (s : State) → IsRing s → is_full s ≡ false → held_count s < s.k
room_is s ring room =
    let few = held_fit s ring in
    let long = held_length s in
    let other : length (held_entries s) ≢ s.k = λ e. absurd (let yes = test_same (length (held_entries s)) s.k e in cc) in
    omega (arith, few, long, other)

taking_marked : (s : State) → is_taking s ≡ true → (mark s == 3) ≡ true
taking_marked s taking = grind (arith, nat_tests)

-- while an entry is taken it stands before the held ones
pub taking_count : (s : State) → IsRing s → is_taking s ≡ true → positions_between s.k (head s) (tail s) ≡ held_count s + 1
taking_count s ring taking =
    let some = ring.taken_some taking in
    let n = positions_between s.k (head s) (tail s) - 1 in
    let begin : oldest s ≡ position_after s.k (head s) =
    ap (λ (b : Bool). if b then head_next s else head s) (taking_marked s taking) ∙ ring.taken_follows taking in
    let less : held_count s ≡ n =
    ap (λ (from : ℕ). positions_between s.k from (tail s)) begin
    ∙ between_less s.k (head s) (tail s) n ring.head_low ring.tail_low (omega (arith, some)) in
    omega (arith, less, some)

resting_step : (s : State) (marked same : Bool) → (mark s == 3) ≡ marked → (head s == head_next s) ≡ same → is_taking s ≡ false
    → head s ≡ (if marked then head_next s else head s)
resting_step s false same m e resting = refl
resting_step s true true m e resting = let one : head s ≡ head_next s = grind (arith, nat_tests) in one
resting_step s true false m e resting = absurd (let yes : is_taking s ≡ true = grind (arith, nat_tests) in cc)

-- else they begin at the head
pub resting_oldest : (s : State) → is_taking s ≡ false → head s ≡ oldest s
resting_oldest s resting = resting_step s (mark s == 3) (head s == head_next s) refl refl resting

pub resting_count : (s : State) → is_taking s ≡ false → positions_between s.k (head s) (tail s) ≡ held_count s
resting_count s resting = ap (λ (from : ℕ). positions_between s.k from (tail s)) (resting_oldest s resting)

-- where there is room, the slot of an entry that is taken is not the next posting's
pub taken_is_not_next : (s : State) → IsRing s → is_full s ≡ false → is_taking s ≡ true → slot_of s.k (head s) ≢ slot_of s.k (tail s)
taken_is_not_next s ring room taking = λ e.
    let count = taking_count s ring taking in
    let low = room_is s ring room in
    slots_differ s.k (head s) 0 (positions_between s.k (head s) (tail s)) ring.head_low (omega (arith, count)) (omega (arith, count, low))
    (ap (slot_of s.k) (position_itself s.k (head s) ring.head_low) ∙ e
    ∙ ap (slot_of s.k) (end_is s.k (head s) (tail s) ring.head_low ring.tail_low))
