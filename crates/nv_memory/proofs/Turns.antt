-- Positions and slots: sums modulo a number.
use Rattle.std.proofs.Common.{◌≡◌, ◌≢◌, ◌⊎◌, ℕ, ◌+◌, ◌-◌, ◌%◌, ◌<◌, ◌≤◌, ◌∙◌, ap, inl, inr, arith}
use Rattle.std.proofs.Math.Nat.{mod-eq_of_lt, add-mod_right, add-mod-mod, add_comm}
use Rattle.std.proofs.lemmas.Bool.{cases_lt}
use Rattle.nv_memory.specs.Ring.{position_after, positions, positions_between, slot_of}

once : (x n y : ℕ) → x ≡ y + n → y < n → x % n + n ≡ x
once x n y e l = let small : (y + n) % n ≡ y = add-mod_right y n ∙ mod-eq_of_lt l in omega (arith, ap (λ z. z % n) e, small)

-- a number modulo n, below 2 n
pub wraps : (x n : ℕ) → x < n + n → ((x % n ≡ x) × (x < n)) ⊎ ((x % n + n ≡ x) × (n ≤ x))
wraps x n h = elim (cases_lt x n) [
  | inl below ↦ inl (mod-eq_of_lt below, below)
  | inr above ↦ inr (once x n (x - n) (omega arith) (omega arith), above)
]

-- two of k + 1 positions in a row have two slots
pub slots_differ : (k from i j : ℕ) → from < positions k → i < j → j ≤ k → slot_of k ((from + i) % positions k) ≢ slot_of k ((from + j) % positions k)
slots_differ k from i j low less few = λ same.
    let a = wraps (from + i) (positions k) (omega arith) in
    let b = wraps (from + j) (positions k) (omega arith) in
    let c = wraps ((from + i) % positions k) (k + 1) (omega arith) in
    let d = wraps ((from + j) % positions k) (k + 1) (omega arith) in
    omega (arith, a, b, c, d, same)

pub slot_low : (k position : ℕ) → slot_of k position ≤ k
slot_low k position = omega arith

-- one position on, and then i
pub position_shift : (k from i : ℕ) → (position_after k from + i) % positions k ≡ (from + (i + 1)) % positions k
position_shift k from i =
    let e : (i + (from + 1) % positions k) % positions k ≡ (i + (from + 1)) % positions k = add-mod-mod i (from + 1) (positions k) in
    ap (λ x. x % positions k) (add_comm (position_after k from) i) ∙ e
    ∙ ap (λ x. x % positions k) (let f : i + (from + 1) ≡ from + (i + 1) = omega arith in f)

-- where the last of so many positions ends
pub end_is : (k from to : ℕ) → from < positions k → to < positions k → to ≡ (from + positions_between k from to) % positions k
end_is k from to f t =
    let a = wraps (to + positions k - from) (positions k) (omega arith) in
    let b = wraps (from + positions_between k from to) (positions k) (omega arith) in
    omega (arith, a, b)

-- one position more
pub between_more : (k from to : ℕ) → from < positions k → to < positions k → positions_between k from to ≤ k
    → positions_between k from (position_after k to) ≡ positions_between k from to + 1
between_more k from to f t few =
    let a = wraps (to + positions k - from) (positions k) (omega arith) in
    let b = wraps (to + 1) (positions k) (omega arith) in
    let c = wraps (position_after k to + positions k - from) (positions k) (omega arith) in
    omega (arith, a, b, c)

-- one position fewer
pub between_less : (k from to n : ℕ) → from < positions k → to < positions k → positions_between k from to ≡ n + 1
    → positions_between k (position_after k from) to ≡ n
between_less k from to n f t few =
    let a = wraps (to + positions k - from) (positions k) (omega arith) in
    let b = wraps (from + 1) (positions k) (omega arith) in
    let c = wraps (to + positions k - position_after k from) (positions k) (omega arith) in
    omega (arith, a, b, c, few)
