-- A write to the address of a seat changes what stands there and nothing else.
use Rattle.std.proofs.Common.{◌≡◌, ℕ, ◌<◌, length, refl, sym, ap, subst, ◌∙◌, Bool, true, false, if◌then◌else◌, get_or-set_same, get_or-set_other}
use Rattle.std.specs.Prelude.{slice_index, slice_set}
use Rattle.nv_memory.specs.declared.write.Write.{Write}
use Rattle.nv_memory.specs.Seats.{Memory, Seat, IsMemory, address, is_seat, written}
use Rattle.nv_memory.specs.State.{Change, PutsOneWord, Writes, cells, is_same, put, set_to, state, write_of}
use Rattle.nv_memory.proofs.Seats.{address_one, is_itself, same_is, seat_inside}

-- what stands at one seat after a write to another
cell_after : (m : Memory) (seat other : Seat) (value : ℕ) (here there : Bool) → IsMemory m → is_seat m.n m.k seat ≡ true →
    is_seat m.n m.k other ≡ here → is_same other seat ≡ there →
    (if here then slice_index (slice_set m.words (address m.n seat) value) (address m.n other) else 0) ≡
    (if there then value else (if here then slice_index m.words (address m.n other) else 0))
cell_after m seat other value true true sizes is here same =
    let one : other ≡ seat = same_is other seat same in
    let low : address m.n seat < length m.words = rw sizes.whole (seat_inside m.n m.k seat is) in
    ap (λ (s : Seat). slice_index (slice_set m.words (address m.n seat) value) (address m.n s)) one
    ∙ get_or-set_same m.words (address m.n seat) value 0 low
cell_after m seat other value true false sizes is here same =
    get_or-set_other m.words (address m.n seat) (address m.n other) value 0
    (λ e. let one : other ≡ seat = address_one m.n m.k other seat here is (cc) in
    let yes : is_same other seat ≡ true = ap (λ (s : Seat). is_same s seat) one ∙ is_itself seat in absurd cc)
cell_after m seat other value false true sizes is here same =
    let one : other ≡ seat = same_is other seat same in
    let not : is_seat m.n m.k seat ≡ false = ap (is_seat m.n m.k) (sym one) ∙ here in absurd cc
cell_after m seat other value false false sizes is here same = refl

state_after : (m : Memory) (change : Change) → IsMemory m → is_seat m.n m.k change.seat ≡ true
    → state (written m (write_of m.n change)) ≡ put (state m) change
unfolding cells
state_after m change sizes is = λ i. record {
  n = m.n;
  k = m.k;
  at = λ other. cell_after m change.seat other change.value (is_seat m.n m.k other) (is_same other change.seat) sizes is refl refl i;
}

pub puts_one_word : (m : Memory) (change : Change) (write : Write) → IsMemory m → Writes m change write → PutsOneWord m change write
puts_one_word m change write sizes w = subst (λ (other : Write). PutsOneWord m change other) (sym w.is) (record {
  within = seat_inside m.n m.k change.seat w.seat;
  state = state_after m change sizes w.seat;
})

-- a write whose address is that of a seat
pub writes_at : (m : Memory) (seat : Seat) (value at word : ℕ) → is_seat m.n m.k seat ≡ true → at ≡ address m.n seat → word ≡ value
    → Writes m (set_to seat value) (record { at = at; word = word })
writes_at m seat value at word is there same = record { seat = is; is = rw (there, same) refl }
