-- What a test of two numbers tells.
use Rattle.std.proofs.Common.{◌≡◌, ◌≢◌, ℕ, ◌==◌, true, false, arith}
use Rattle.std.proofs.lemmas.Bool.Decides.{nat_tests}

pub same_by_test : (i j : ℕ) → (i == j) ≡ true → i ≡ j
same_by_test i j is = grind (arith, nat_tests)

pub other_by_test : (i j : ℕ) → (i == j) ≡ false → i ≢ j
other_by_test i j is = grind (arith, nat_tests)
