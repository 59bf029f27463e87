-- A pair that the transaction log gets: there is room for it, and its writes follow one another.
use Rattle.std.proofs.Common.{◌≡◌, ◌≢◌, ◌<◌, ℕ, ◌+◌, refl, ap, ◌∙◌, [], ◌∷◌, None, arith}
use Rattle.nv_memory.specs.declared.log.Log.TheVariants as log
use Rattle.nv_memory.specs.declared.write.Write.{Write}
use Rattle.nv_memory.specs.InRange.{InRange}
use Rattle.nv_memory.specs.Seats.{Memory, address}
use Rattle.nv_memory.specs.State.{State, set_to, state}
use Rattle.nv_memory.specs.Logs.{index_in, length_in, number_in, pair_value_in, tx_log}
use Rattle.nv_memory.proofs.LogWrites.{room_for_new}
use Rattle.nv_memory.proofs.Looks.{look_none}
use Rattle.nv_memory.proofs.Seats.{part_seat}
use Rattle.tx_buffer.specs.Next.{MakesNext}
use Rattle.tx_buffer.specs.Merge.{store_changes}
use Rattle.tx_buffer.proofs.Makes.{makes_head}
use Rattle.tx_buffer.proofs.Undone.{done_head, undone_head}

-- the transaction log has room for a word that isn't in it
pub has_room : (s : State) (word : ℕ) → InRange s → word < s.n → index_in s tx_log word ≡ None → length_in s tx_log < s.n
has_room s word r low none =
    room_for_new s tx_log word (r.logs log.Tx tt) low (look_none (number_in s tx_log) (pair_value_in s tx_log) (length_in s tx_log) word none)

abbrev end_of : Memory → ℕ
end_of m = length_in (state m) tx_log

pub adds_number : (m : Memory) (word value at : ℕ) → end_of m < m.n → at ≡ address m.n (tx_log.number (end_of m))
    → number_in (state m) tx_log (end_of m) ≢ word → MakesNext m (store_changes (state m) word value None) (record { at = at; word = word })
adds_number m word value at low is n =
    makes_head m (tx_log.number (end_of m)) at word (set_to (tx_log.value (end_of m)) value ∷ set_to tx_log.length (end_of m + 1) ∷ [])
    (part_seat m.n m.k 3 (end_of m) (omega arith) low) is n

pub adds_value : (m : Memory) (word value at : ℕ) → end_of m < m.n → at ≡ address m.n (tx_log.value (end_of m))
    → number_in (state m) tx_log (end_of m) ≡ word → pair_value_in (state m) tx_log (end_of m) ≢ value
    → MakesNext m (store_changes (state m) word value None) (record { at = at; word = value })
adds_value m word value at low is named n =
    let rest = set_to tx_log.length (end_of m + 1) ∷ [] in
    let here = makes_head m (tx_log.value (end_of m)) at value rest (part_seat m.n m.k 4 (end_of m) (omega arith) low) is n in
    record {
      change = here.change;
      next = done_head (state m) (set_to (tx_log.number (end_of m)) word) (set_to (tx_log.value (end_of m)) value ∷ rest) named ∙ here.next;
      writes = here.writes;
    }

pub adds_length : (m : Memory) (word value longer : ℕ) → longer ≡ end_of m + 1 → number_in (state m) tx_log (end_of m) ≡ word
    → pair_value_in (state m) tx_log (end_of m) ≡ value → MakesNext m (store_changes (state m) word value None) (record { at = 5; word = longer })
adds_length m word value longer is named valued =
    let last = set_to tx_log.length (end_of m + 1) in
    let write : Write = record { at = 5; word = longer } in
    record {
      change = last;
      next = done_head (state m) (set_to (tx_log.number (end_of m)) word) (set_to (tx_log.value (end_of m)) value ∷ last ∷ []) named
          ∙ done_head (state m) (set_to (tx_log.value (end_of m)) value) (last ∷ []) valued ∙ undone_head (state m) last [] (omega arith);
      writes = record { seat = refl; is = ap (λ (x : ℕ). let w : Write = record { at = 5; word = x } in w) is };
    }
