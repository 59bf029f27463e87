-- What is left of a list whose items are taken one after another.
use Rattle.std.proofs.Common.{◌≡◌, ℕ, zero, suc, ◌+◌, ◌<◌, List, [], ◌∷◌, ◌++◌, drop, take, length, get_or, set, sym, ap, arith, append_assoc}
use Rattle.std.proofs.Math.Numerals.{add-one}
use Rattle.std.proofs.Math.Seq.{take-suc-set}

rest-suc : {A : Type 0} (xs : List A) (at : ℕ) (x : A) → at < length xs → x ≡ get_or xs at x → drop at xs ≡ x ∷ drop (suc at) xs
rest-suc [] at x below is = absurd (omega arith)
rest-suc (head ∷ more) zero x below is = ap (λ first. first ∷ more) (sym is)
rest-suc (head ∷ more) (suc at) x below is = rest-suc more at x (omega arith) is

-- the rest begins with the item whose turn it is
pub rest-is : {A : Type 0} (xs : List A) (at : ℕ) (x : A) → at < length xs → x ≡ get_or xs at x → drop at xs ≡ x ∷ drop (at + 1) xs
rest-is xs at x below is = rw add-one (rest-suc xs at x below is)

-- a store of one item more, and what follows it
pub stored-then : (xs : List ℕ) (at x : ℕ) (more : List ℕ) → at < length xs → take (at + 1) (set xs at x) ++ more ≡ take at xs ++ (x ∷ more)
stored-then xs at x more below = rw (add-one, take-suc-set xs at x below, append_assoc)
