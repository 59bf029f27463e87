-- The least of places that stand in parts.
use Rattle.std.proofs.Common.{◌≡◌, ℕ, ◌≤◌, List, [], ◌∷◌, ◌++◌, refl, arith, subst, sym, ap, ◌∙◌, inl, inr}
use Rattle.std.specs.Prelude.{Option, Some, None, min, All, Contains}
use Rattle.std.proofs.lemmas.Bool.{cases_lt}
use Rattle.std.proofs.lemmas.List.Elements.{All-nil, All-cons, All-weaker, Contains-append_right}
use Rattle.task_check.proofs.Turns.{IsJoined}
use Rattle.task_check.specs.Least.{IsLeast, IsLeastOf, lesser, least}

pub lesser-none : (found : Option ℕ) → lesser found None ≡ found
lesser-none None = refl
lesser-none (Some place) = refl

min_assoc : (a b c : ℕ) → min (min a b) c ≡ min a (min b c)
min_assoc a b c = omega arith

pub lesser_assoc : (a b c : Option ℕ) → lesser (lesser a b) c ≡ lesser a (lesser b c)
lesser_assoc None b c = refl
lesser_assoc (Some a) None c = refl
lesser_assoc (Some a) (Some b) None = refl
lesser_assoc (Some a) (Some b) (Some c) = ap (λ (n : ℕ). Some n) (min_assoc a b c)

min_comm : (a b : ℕ) → min a b ≡ min b a
min_comm a b = omega arith

pub lesser_comm : (a b : Option ℕ) → lesser a b ≡ lesser b a
lesser_comm None None = refl
lesser_comm None (Some b) = refl
lesser_comm (Some a) None = refl
lesser_comm (Some a) (Some b) = ap (λ (n : ℕ). Some n) (min_comm a b)

-- pairs are put together the other way round
pub lesser_swap : (a b c d : Option ℕ) → lesser (lesser a b) (lesser c d) ≡ lesser (lesser a c) (lesser b d)
lesser_swap a b c d =
    lesser_assoc a b (lesser c d)
    ∙ ap (lesser a) (sym (lesser_assoc b c d) ∙ ap (λ (x : Option ℕ). lesser x d) (lesser_comm b c) ∙ lesser_assoc c b d)
    ∙ sym (lesser_assoc a c (lesser b d))

pub least-append : (xs ys : List ℕ) → least (xs ++ ys) ≡ lesser (least xs) (least ys)
least-append [] ys = refl
least-append (x ∷ xs) ys = rw (least-append xs ys) (sym (lesser_assoc (Some x) (least xs) (least ys)))

here : (at : ℕ) (more : List ℕ) → Contains (at ∷ more) at
here at more = (0, omega arith, refl)

pub is_least-alone : (at : ℕ) → IsLeast (at ∷ []) at
is_least-alone at = record { among = here at []; least = All-cons (λ other. at ≤ other) at [] (omega arith) (All-nil (λ other. at ≤ other)) }

pub is_least-kept : (at place : ℕ) (more : List ℕ) → at ≤ place → All (λ other. place ≤ other) more → IsLeast (at ∷ more) at
is_least-kept at place more below least = record {
  among = here at more;
  least = All-cons (λ other. at ≤ other) at more (omega arith) (All-weaker (λ other. place ≤ other) (λ other. at ≤ other) (λ other least. omega arith) more least);
}

pub is_least-other : (at place : ℕ) (more : List ℕ) → place ≤ at → IsLeast more place → IsLeast (at ∷ more) place
is_least-other at place more below is = record {
  among = Contains-append_right (at ∷ []) more place is.among;
  least = All-cons (λ other. place ≤ other) at more below is.least;
}

pub is_least-cons : (at : ℕ) (more : List ℕ) (found : Option ℕ) → IsLeastOf more found → IsLeastOf (at ∷ more) (lesser (Some at) found)
is_least-cons at more None none = subst (λ (xs : List ℕ). IsLeast (at ∷ xs) at) (sym none) (is_least-alone at)
is_least-cons at more (Some place) is =
    elim (cases_lt at place) [
      | inl below ↦ let same : at ≡ min at place = omega arith in subst (IsLeast (at ∷ more)) same (is_least-kept at place more (omega arith) is.least)
      | inr above ↦ let same : place ≡ min at place = omega arith in subst (IsLeast (at ∷ more)) same (is_least-other at place more above is)
    ]

pub IsLeastOf_least : (places : List ℕ) → IsLeastOf places (least places)
IsLeastOf_least [] = refl
IsLeastOf_least (at ∷ more) = is_least-cons at more (least more) (IsLeastOf_least more)

pub least_joins : IsJoined lesser least
least_joins = record { assoc = lesser_assoc; append = least-append }

pub ruleset parts = (lesser-none, lesser_assoc, least-append)
