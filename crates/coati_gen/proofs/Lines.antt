-- One line more.
use Rattle.std.proofs.Common.{◌≡◌, ℕ, suc, ◌+◌, ◌++◌, List, refl, subst, arith}
use Rattle.coati_gen.specs.Generated.{lines_up_to}

pub one_line_more : (line : ℕ → List ℕ) (i : ℕ) → lines_up_to line (i + 1) ≡ lines_up_to line i ++ line (i + 1)
one_line_more line i =
    let e : suc i ≡ i + 1 = omega arith in
    subst (λ (k : ℕ). lines_up_to line k ≡ lines_up_to line i ++ line k) e refl
