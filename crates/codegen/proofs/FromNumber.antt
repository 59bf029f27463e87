-- What is left of a list from the item of a number on.
use Rattle.std.proofs.Common.{◌≡◌, ℕ, zero, suc, ◌+◌, List, [], ◌∷◌, drop, ap, ◌∙◌, arith}
use Rattle.std.specs.Prelude.{Some, slice_get}

pub drop_from : {X : Type 0} (xs : List X) (i : ℕ) (x : X) → slice_get xs i ≡ Some x → drop i xs ≡ x ∷ drop (i + 1) xs
drop_from [] i x is = absurd cc
drop_from (y ∷ xs) zero x is = let same : y ≡ x = cc in ap (λ first. first ∷ xs) same
drop_from (y ∷ xs) (suc i) x is =
    let same : suc (i + 1) ≡ suc i + 1 = omega arith in
    drop_from xs i x is ∙ ap (λ n. x ∷ drop n (y ∷ xs)) same
