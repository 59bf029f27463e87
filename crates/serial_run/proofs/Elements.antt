-- What stands at a place of a list.
use Rattle.std.proofs.Common.{◌≡◌, ℕ, zero, suc, ◌<◌, List, [], ◌∷◌, length, get_or, ap, sym, arith}
use Rattle.std.specs.Prelude.{Some, slice_get}

pub get-is : {X : Type 0} (xs : List X) (at : ℕ) (x : X) → at < length xs → x ≡ get_or xs at x → slice_get xs at ≡ Some x
get-is [] at x below is = absurd (omega arith)
get-is (head ∷ more) zero x below is = ap (λ y. Some y) (sym is)
get-is (head ∷ more) (suc at) x below is = get-is more at x (omega arith) is
