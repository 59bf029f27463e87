-- The slots from a position on.
use Rattle.std.proofs.Common.{◌≡◌, ℕ, zero, suc, ◌+◌, ◌%◌, ◌∙◌, sym, ap, [], ◌∷◌, ◌++◌, arith}
use Rattle.std.proofs.Math.Nat.{dvd-mul_left, mod-mod_of_dvd}
use Rattle.nv_memory.specs.Ring.{position_after, positions, slot_of, slots_from}
use Rattle.nv_memory.proofs.Turns.{position_shift}

-- the slot of a position doesn't change where the position is taken modulo their number
slot_wrapped : (k x : ℕ) → slot_of k (x % positions k) ≡ slot_of k x
slot_wrapped k x = mod-mod_of_dvd (k + 1) x (dvd-mul_left (k + 1) 2)

slot_shift : (k p i : ℕ) → slot_of k (position_after k p + i) ≡ slot_of k (p + suc i)
slot_shift k p i =
    sym (slot_wrapped k (position_after k p + i)) ∙ ap (slot_of k) (position_shift k p i)
    ∙ slot_wrapped k (p + (i + 1)) ∙ ap (slot_of k) (let e : p + (i + 1) ≡ p + suc i = omega arith in e)

-- one slot more, at the end
pub slots_more : (k p count : ℕ) → slots_from k p (suc count) ≡ slots_from k p count ++ slot_of k (p + count) ∷ []
slots_more k p zero = ap (λ s. s ∷ []) (ap (slot_of k) (let e : p ≡ p + zero = omega arith in e))
slots_more k p (suc count) =
    ap (λ rest. slot_of k p ∷ rest) (slots_more k (position_after k p) count
    ∙ ap (λ s. slots_from k (position_after k p) count ++ s ∷ []) (slot_shift k p count))
