-- Seats of an image have addresses of their own within it.
use Rattle.std.proofs.Common.{◌≡◌, ℕ, ◌+◌, ◌*◌, ◌<◌, ◌≤◌, inl, inr, refl, ap, arith, true, nat_lt}
use Rattle.std.specs.Prelude.{slice_index}
use Rattle.std.proofs.Math.Nat.{mul-le-mul_right, suc-mul}
use Rattle.std.proofs.lemmas.Bool.{cases_lt}
use Rattle.std.proofs.lemmas.Bool.Decides.{nat_tests}
use Rattle.nv_memory.specs.declared.log.Log.{Log}
use Rattle.nv_memory.specs.declared.log.Log.TheVariants as log
use Rattle.nv_memory.specs.Seats.{Memory, Seat, address, is_seat, part_at, part_size, size, width}
use Rattle.nv_memory.specs.State.{cells, is_same}
use Rattle.nv_memory.specs.Logs.{HasLog, seats_of}

below_is : (i n : ℕ) → i < n → nat_lt i n ≡ true
below_is i n l = grind (arith, nat_tests)

pub header_seat : (n k i : ℕ) → i < 12 → is_seat n k (Seat.Header i) ≡ true
header_seat n k i l = below_is i 12 l

pub part_seat : (n k part word : ℕ) → part < 7 → word < n → is_seat n k (Seat.Part part word) ≡ true
part_seat n k part word l h = rw (below_is part 7 l, below_is word n h) refl

pub entry_seat : (n k slot part at : ℕ) → slot ≤ k → part < 3 → at < part_size n part → is_seat n k (Seat.Entry slot part at) ≡ true
entry_seat n k slot part at l h g =
    rw (below_is slot (k + 1) (omega arith), below_is part 3 h, below_is at (part_size n part) g) refl

-- two rows of one width lie apart
rows_up : (w s t i j : ℕ) → s < t → i < w → s * w + i < t * w + j
rows_up w s t i j l h = omega (arith, mul-le-mul_right w l, suc-mul s w)

same_row : (w s t i j : ℕ) → i < w → j < w → s * w + i ≡ t * w + j → s ≡ t
same_row w s t i j h k e = elim (cases_lt s t) [
  | inl l ↦ absurd (omega (arith, rows_up w s t i j l h, e))
  | inr l ↦ elim (cases_lt t s) [
    | inl g ↦ absurd (omega (arith, rows_up w t s j i g k, e))
    | inr g ↦ omega (arith, l, g)
  ]
]

-- the seat is one of the image, by its numbers
abbrev pub IsIn : ℕ → ℕ → Seat → Type 0
IsIn n k (Seat.Header i) = i < 12
IsIn n k (Seat.Part part word) = (part < 7) × (word < n)
IsIn n k (Seat.Entry slot part at) = (slot < k + 1) × (part < 3) × (at < part_size n part)

pub is_in : (n k : ℕ) (seat : Seat) → is_seat n k seat ≡ true → IsIn n k seat
is_in n k (Seat.Header i) e = grind (arith, nat_tests)
is_in n k (Seat.Part part word) e = (grind (arith, nat_tests), grind (arith, nat_tests))
is_in n k (Seat.Entry slot part at) e = (grind (arith, nat_tests), grind (arith, nat_tests), grind (arith, nat_tests))

-- a word of a part of an entry lies in the entry
in_entry : (n part at : ℕ) → part < 3 → at < part_size n part → part_at n part + at < width n
in_entry n part at l h = grind (arith, nat_tests)

entry_same : (n p q i j : ℕ) → p < 3 → q < 3 → i < part_size n p → j < part_size n q
    → part_at n p + i ≡ part_at n q + j → (p ≡ q) × (i ≡ j)
entry_same n p q i j l m g h e = (grind (arith, nat_tests), grind (arith, nat_tests))

slot_up : (n k slot i : ℕ) → slot < k + 1 → i < width n → slot * width n + i < (k + 1) * width n
slot_up n k slot i l h = let up : slot * width n + i < (k + 1) * width n + 0 = rows_up (width n) slot (k + 1) i 0 l h in omega (arith, up)

part_low : (n part word : ℕ) → part < 7 → word < n → 12 + (part * n + word) < 12 + 7 * n
part_low n part word l h = let up : part * n + word < 7 * n + 0 = rows_up n part 7 word 0 l h in omega (arith, up)

inside : (n k : ℕ) (seat : Seat) → IsIn n k seat → address n seat < size n k
inside n k (Seat.Header i) h = omega arith
inside n k (Seat.Part part word) h = omega (arith, part_low n part word h.0 h.1)
inside n k (Seat.Entry slot part at) h = omega (arith, slot_up n k slot (part_at n part + at) h.0 (in_entry n part at h.1 h.2))

pub seat_inside : (n k : ℕ) (seat : Seat) → is_seat n k seat ≡ true → address n seat < size n k
seat_inside n k seat is = inside n k seat (is_in n k seat is)

one_seat : (n k : ℕ) (a b : Seat) → IsIn n k a → IsIn n k b → address n a ≡ address n b → a ≡ b
one_seat n k (Seat.Header i) (Seat.Header j) h g e = ap Seat.Header e
one_seat n k (Seat.Header i) (Seat.Part q j) h g e = absurd (omega (arith, e, h))
one_seat n k (Seat.Header i) (Seat.Entry t q j) h g e = absurd (omega (arith, e, h))
one_seat n k (Seat.Part p i) (Seat.Header j) h g e = absurd (omega (arith, e, g))
one_seat n k (Seat.Part p i) (Seat.Part q j) h g e =
    let row : p * n + i ≡ q * n + j = omega (arith, e) in
    let same : p ≡ q = same_row n p q i j h.1 g.1 row in
    let there : i ≡ j = let rest : q * n + i ≡ q * n + j = rw same at row in omega (arith, rest) in
    rw (same, there) refl
one_seat n k (Seat.Part p i) (Seat.Entry t q j) h g e = absurd (omega (arith, e, part_low n p i h.0 h.1))
one_seat n k (Seat.Entry s p i) (Seat.Header j) h g e = absurd (omega (arith, e, g))
one_seat n k (Seat.Entry s p i) (Seat.Part q j) h g e = absurd (omega (arith, e, part_low n q j g.0 g.1))
one_seat n k (Seat.Entry s p i) (Seat.Entry t q j) h g e =
    let row : s * width n + (part_at n p + i) ≡ t * width n + (part_at n q + j) = omega (arith, e) in
    let same : s ≡ t = same_row (width n) s t (part_at n p + i) (part_at n q + j) (in_entry n p i h.1 h.2) (in_entry n q j g.1 g.2) row in
    let rest : t * width n + (part_at n p + i) ≡ t * width n + (part_at n q + j) = rw same at row in
    let there : (p ≡ q) × (i ≡ j) = entry_same n p q i j h.1 g.1 h.2 g.2 (omega (arith, rest)) in
    rw (same, there.0, there.1) refl

-- seats of one address are one seat
pub address_one : (n k : ℕ) (a b : Seat) → is_seat n k a ≡ true → is_seat n k b ≡ true → address n a ≡ address n b → a ≡ b
address_one n k a b h g e = one_seat n k a b (is_in n k a h) (is_in n k b g) e

pub same_is : (a b : Seat) → is_same a b ≡ true → a ≡ b
same_is (Seat.Header i) (Seat.Header j) e = let there : i ≡ j = grind (arith, nat_tests) in ap Seat.Header there
same_is (Seat.Header i) (Seat.Part q j) e = absurd cc
same_is (Seat.Header i) (Seat.Entry t q j) e = absurd cc
same_is (Seat.Part p i) (Seat.Header j) e = absurd cc
same_is (Seat.Part p i) (Seat.Part q j) e =
    let same : p ≡ q = grind (arith, nat_tests) in
    let there : i ≡ j = grind (arith, nat_tests) in
    rw (same, there) refl
same_is (Seat.Part p i) (Seat.Entry t q j) e = absurd cc
same_is (Seat.Entry s p i) (Seat.Header j) e = absurd cc
same_is (Seat.Entry s p i) (Seat.Part q j) e = absurd cc
same_is (Seat.Entry s p i) (Seat.Entry t q j) e =
    let part : p ≡ q = grind (arith, nat_tests) in
    let at : i ≡ j = grind (arith, nat_tests) in
    let slot : s ≡ t = grind (arith, nat_tests) in
    rw (part, at, slot) refl

pub is_itself : (a : Seat) → is_same a a ≡ true
is_itself (Seat.Header i) = grind (arith, nat_tests)
is_itself (Seat.Part p i) = grind (arith, nat_tests)
is_itself (Seat.Entry s p i) = grind (arith, nat_tests)

-- the word at the address of a seat is what stands at the seat
pub cell_is : (m : Memory) (seat : Seat) → is_seat m.n m.k seat ≡ true → slice_index m.words (address m.n seat) ≡ cells m seat
unfolding cells
cell_is m seat is = rw is refl

-- the seats of a log
pub length_seat : (n k : ℕ) (log : Log) → HasLog k log → is_seat n k (seats_of log).length ≡ true
length_seat n k log.Task has = refl
length_seat n k log.Tx has = refl
length_seat n k (log.Entry slot) has = entry_seat n k slot 0 1 has (omega arith) (omega arith)

pub number_seat : (n k : ℕ) (log : Log) (i : ℕ) → HasLog k log → i < n → is_seat n k ((seats_of log).number i) ≡ true
number_seat n k log.Task i has l = part_seat n k 1 i (omega arith) l
number_seat n k log.Tx i has l = part_seat n k 3 i (omega arith) l
number_seat n k (log.Entry slot) i has l = entry_seat n k slot 1 i has (omega arith) l

pub value_seat : (n k : ℕ) (log : Log) (i : ℕ) → HasLog k log → i < n → is_seat n k ((seats_of log).value i) ≡ true
value_seat n k log.Task i has l = part_seat n k 2 i (omega arith) l
value_seat n k log.Tx i has l = part_seat n k 4 i (omega arith) l
value_seat n k (log.Entry slot) i has l = entry_seat n k slot 2 i has (omega arith) l

-- the same of an address that is known to be the seat's
pub word_is : (m : Memory) (at : ℕ) (seat : Seat) → at ≡ address m.n seat → is_seat m.n m.k seat ≡ true → slice_index m.words at ≡ cells m seat
word_is m at seat e is = rw e (cell_is m seat is)

pub word_inside : (n k at : ℕ) (seat : Seat) → at ≡ address n seat → is_seat n k seat ≡ true → at < size n k
word_inside n k at seat e is = rw e (seat_inside n k seat is)

pub header_is : (m : Memory) (i : ℕ) → i < 12 → slice_index m.words i ≡ cells m (Seat.Header i)
header_is m i l = cell_is m (Seat.Header i) (header_seat m.n m.k i l)
