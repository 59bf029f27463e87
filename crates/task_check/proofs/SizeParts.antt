-- The first size at the least place, of sizes that stand in parts.
use Rattle.std.proofs.Common.{◌≡◌, ◌==◌, ℕ, ◌<◌, ◌≤◌, List, [], ◌∷◌, ◌++◌, map, refl, arith, subst, sym, true, false, inl, inr, ◌∙◌}
use Rattle.std.specs.Prelude.{Option, Some, None, find, nat_lt}
use Rattle.std.proofs.lemmas.Bool.{cases_lt}
use Rattle.std.proofs.lemmas.Bool.Decides.{nat_tests}
use Rattle.task_check.specs.Measures.{IsFirstLeast, IsFirstLeastOf, nearer, first_least}
use Rattle.task_check.proofs.LeastParts.{is_least-alone, is_least-kept, is_least-other}
use Rattle.task_check.proofs.Turns.{IsJoined}

pub nearer-none : (found : Option (ℕ × ℕ)) → nearer found None ≡ found
nearer-none None = refl
nearer-none (Some size) = refl

below-test : (a b : ℕ) → a < b → nat_lt a b ≡ true
below-test a b below = grind (arith, nat_tests)

above-test : (a b : ℕ) → b ≤ a → nat_lt a b ≡ false
above-test a b above = grind (arith, nat_tests)

other-nearer : (one other : ℕ × ℕ) → other.0 < one.0 → nearer (Some one) (Some other) ≡ Some other
other-nearer one other below = rw (below-test other.0 one.0 below) refl

one-nearer : (one other : ℕ × ℕ) → one.0 ≤ other.0 → nearer (Some one) (Some other) ≡ Some one
one-nearer one other above = rw (above-test other.0 one.0 above) refl

nearer_of : (a b c : ℕ × ℕ) → nearer (nearer (Some a) (Some b)) (Some c) ≡ nearer (Some a) (nearer (Some b) (Some c))
nearer_of a b c =
    elim (cases_lt b.0 a.0) [
      | inl b_first ↦
          rw (other-nearer a b b_first) (elim (cases_lt c.0 b.0) [
            | inl c_first ↦ rw (other-nearer b c c_first) (sym (other-nearer a c (omega arith)))
            | inr b_first_too ↦ rw (one-nearer b c b_first_too) (sym (other-nearer a b b_first))
          ])
      | inr a_first ↦
          rw (one-nearer a b a_first) (elim (cases_lt c.0 b.0) [
            | inl c_first ↦ rw (other-nearer b c c_first) refl
            | inr b_first ↦ rw (one-nearer b c b_first) (one-nearer a c (omega arith) ∙ sym (one-nearer a b a_first))
          ])
    ]

pub nearer_assoc : (a b c : Option (ℕ × ℕ)) → nearer (nearer a b) c ≡ nearer a (nearer b c)
nearer_assoc None b c = refl
nearer_assoc (Some a) None c = refl
nearer_assoc (Some a) (Some b) None = nearer-none (nearer (Some a) (Some b))
nearer_assoc (Some a) (Some b) (Some c) = nearer_of a b c

pub first_least-append : (xs ys : List (ℕ × ℕ)) → first_least (xs ++ ys) ≡ nearer (first_least xs) (first_least ys)
first_least-append [] ys = refl
first_least-append (x ∷ xs) ys = rw (first_least-append xs ys) (sym (nearer_assoc (Some x) (first_least xs) (first_least ys)))

pub sizes_join : IsJoined nearer first_least
sizes_join = record { assoc = nearer_assoc; append = first_least-append }

abbrev places : List (ℕ × ℕ) → List ℕ
places sizes = map (λ (size : ℕ × ℕ). size.0) sizes

here : (size : ℕ × ℕ) (more : List (ℕ × ℕ)) → find (λ (other : ℕ × ℕ). other.0 == size.0) (size ∷ more) ≡ Some size
here size more = let same : (size.0 == size.0) ≡ true = grind (arith, nat_tests) in rw same refl

there : (size : ℕ × ℕ) (at : ℕ) (more : List (ℕ × ℕ)) → at < size.0 → find (λ (other : ℕ × ℕ). other.0 == at) (size ∷ more) ≡ find (λ (other : ℕ × ℕ). other.0 == at) more
there size at more below = let other : (size.0 == at) ≡ false = grind (arith, nat_tests) in rw other refl

is_first-cons : (size : ℕ × ℕ) (more : List (ℕ × ℕ)) (found : Option (ℕ × ℕ)) → IsFirstLeastOf more found → IsFirstLeastOf (size ∷ more) (nearer (Some size) found)
is_first-cons size more None none = subst (λ (xs : List (ℕ × ℕ)). IsFirstLeast (size ∷ xs) size) (sym none) (record { place = is_least-alone size.0; first = here size [] })
is_first-cons size more (Some found) is =
    elim (cases_lt found.0 size.0) [
      | inl below ↦
          subst (IsFirstLeastOf (size ∷ more)) (sym (other-nearer size found below)) (record {
            place = is_least-other size.0 found.0 (places more) (omega arith) is.place;
            first = rw (there size found.0 more below) is.first;
          })
      | inr above ↦
          subst (IsFirstLeastOf (size ∷ more)) (sym (one-nearer size found above)) (record {
            place = is_least-kept size.0 found.0 (places more) above is.place.least;
            first = here size more;
          })
    ]

pub IsFirstLeastOf_first_least : (sizes : List (ℕ × ℕ)) → IsFirstLeastOf sizes (first_least sizes)
IsFirstLeastOf_first_least [] = refl
IsFirstLeastOf_first_least (size ∷ more) = is_first-cons size more (first_least more) (IsFirstLeastOf_first_least more)

pub ruleset parts = (nearer-none, nearer_assoc, first_least-append)
