-- A walk over writes to the header.
use Rattle.std.proofs.Common.{◌≡◌, ◌≢◌, ℕ, ◌+◌, ◌<◌, refl, sym, ◌∙◌, arith, List, length, get_or, drop, Bool, true, false, ◌&&◌, nat_lt}
use Rattle.std.specs.Prelude.{slice_index}
use Rattle.std.proofs.lemmas.Bool.Decides.{nat_tests}
use Rattle.std.proofs.lemmas.List.{at_drop_more}
use Rattle.nv_memory.specs.declared.write.Write.{Write}
use Rattle.nv_memory.specs.Seats.{Memory, Seat}
use Rattle.nv_memory.specs.State.{State, first_undone, set_to, state}
use Rattle.nv_memory.proofs.Seats.{header_is}
use Rattle.tx_buffer.specs.Next.{MakesNext, are_headers, header_changes}
use Rattle.tx_buffer.proofs.Makes.{makes_head}
use Rattle.tx_buffer.proofs.Undone.{done_head}

both_true : (a b : Bool) → (a && b) ≡ true → (a ≡ true) × (b ≡ true)
both_true true b e = (refl, e)
both_true false b e = absurd cc

-- the write at an index, where the rest begins
pub header_low : (writes : List Write) (i : ℕ) (d : Write) → i < length writes → are_headers (drop i writes) ≡ true
    → (nat_lt (get_or writes i d).at 12 ≡ true) × (are_headers (drop (i + 1) writes) ≡ true)
header_low writes i d l e =
    both_true (nat_lt (get_or writes i d).at 12) (are_headers (drop (i + 1) writes)) (sym (at_drop_more are_headers writes i d l) ∙ e)

below_twelve : (at : ℕ) → nat_lt at 12 ≡ true → at < 12
below_twelve at e = grind (arith, nat_tests)

-- what is read there stands there
pub header_read : (m : Memory) (writes : List Write) (i : ℕ) (d : Write) → i < length writes → are_headers (drop i writes) ≡ true
    → slice_index m.words (get_or writes i d).at ≡ (state m).at (Seat.Header (get_or writes i d).at)
header_read m writes i d l e = header_is m (get_or writes i d).at (below_twelve (get_or writes i d).at (header_low writes i d l e).0)

pub header_found : (m : Memory) (writes : List Write) (i : ℕ) (d : Write) → i < length writes → are_headers (drop i writes) ≡ true
    → first_undone (state m) (header_changes writes) ≡ first_undone (state m) (header_changes (drop i writes))
    → (state m).at (Seat.Header (get_or writes i d).at) ≢ (get_or writes i d).word → MakesNext m (header_changes writes) (get_or writes i d)
header_found m writes i d l low so_far n =
    let write = get_or writes i d in
    let here = makes_head m (Seat.Header write.at) write.at write.word (header_changes (drop (i + 1) writes)) (header_low writes i d l low).0 refl n in
    record {
      change = here.change;
      next = so_far ∙ at_drop_more (λ (rest : List Write). first_undone (state m) (header_changes rest)) writes i d l ∙ here.next;
      writes = here.writes;
    }

pub header_stands : (s : State) (writes : List Write) (i : ℕ) (d : Write) → i < length writes
    → first_undone s (header_changes writes) ≡ first_undone s (header_changes (drop i writes))
    → s.at (Seat.Header (get_or writes i d).at) ≡ (get_or writes i d).word
    → first_undone s (header_changes writes) ≡ first_undone s (header_changes (drop (i + 1) writes))
header_stands s writes i d l so_far e =
    let write = get_or writes i d in
    so_far ∙ at_drop_more (λ (rest : List Write). first_undone s (header_changes rest)) writes i d l
    ∙ done_head s (set_to (Seat.Header write.at) write.word) (header_changes (drop (i + 1) writes)) e
