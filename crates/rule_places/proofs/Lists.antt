-- A fact of each element of lists that are made of others.
use Rattle.std.proofs.Common.{ℕ, zero, suc, Bool, true, false, List, [], ◌∷◌, ◌++◌, map}
use Rattle.std.specs.Prelude.{Option, Some, None, filter, flat_map, if◌then◌else◌, slice_get}
use Rattle.std.specs.List.{AllByRecursion, concat, zip}
use Rattle.task_check.specs.Least.{unless}

pub all-joined : {X : Type 0} (P : X → Type 0) (xs ys : List X)
    → AllByRecursion P xs → AllByRecursion P ys → AllByRecursion P (xs ++ ys)
all-joined P [] ys one two = two
all-joined P (x ∷ xs) ys one two = (one.0, all-joined P xs ys one.1 two)

pub all-concat : (P : ℕ → Type 0) (xss : List (List ℕ))
    → AllByRecursion (AllByRecursion P) xss → AllByRecursion P (concat xss)
all-concat P [] all = tt
all-concat P (xs ∷ xss) all = all-joined P xs (concat xss) all.0 (all-concat P xss all.1)

pub all-mapped : {X Y : Type 0} (f : X → Y) (P : Y → Type 0) (xs : List X)
    → AllByRecursion (λ (x : X). P (f x)) xs → AllByRecursion P (map f xs)
all-mapped f P [] all = tt
all-mapped f P (x ∷ xs) all = (all.0, all-mapped f P xs all.1)

pub all-weaker : {X : Type 0} (P Q : X → Type 0) → ((x : X) → P x → Q x) → (xs : List X)
    → AllByRecursion P xs → AllByRecursion Q xs
all-weaker P Q so [] all = tt
all-weaker P Q so (x ∷ xs) all = (so x all.0, all-weaker P Q so xs all.1)

-- what is made of each element, where that is known of it which the element asks for
pub all-flat_map : {I X Y : Type 0} (asks : X → I) (P : I → X → Type 0) (Q : Y → Type 0)
    (f : X → List Y) → ((x : X) → P (asks x) x → AllByRecursion Q (f x)) → (xs : List X)
    → ((i : I) → AllByRecursion (P i) xs) → AllByRecursion Q (flat_map f xs)
all-flat_map asks P Q f so [] all = tt
all-flat_map asks P Q f so (x ∷ xs) all =
    all-joined Q (f x) (flat_map f xs) (so x (all (asks x)).0)
    (all-flat_map asks P Q f so xs (λ i. (all i).1))

pub all-zip : {I X : Type 0} (P : I → X → Type 0) (is : List I) (xs : List X)
    → ((i : I) → AllByRecursion (P i) xs)
    → AllByRecursion (λ (both : I × X). P both.0 both.1) (zip is xs)
all-zip P [] xs all = tt
all-zip P (i ∷ is) [] all = tt
all-zip P (i ∷ is) (x ∷ xs) all = ((all i).0, all-zip P is xs (λ j. (all j).1))

-- an element that is kept or not, before others
all-kept : {X : Type 0} (P : X → Type 0) (kept : Bool) (x : X) (xs : List X)
    → P x → AllByRecursion P xs → AllByRecursion P (if kept then x ∷ xs else xs)
all-kept P true x xs one others = (one, others)
all-kept P false x xs one others = others

pub all-filter : {X : Type 0} (P : X → Type 0) (test : X → Bool) (xs : List X)
    → AllByRecursion P xs → AllByRecursion P (filter test xs)
all-filter P test [] all = tt
all-filter P test (x ∷ xs) all =
    all-kept P (test x) x (filter test xs) all.0 (all-filter P test xs all.1)

-- what is found in a list, where something is
abbrev pub IsSo : {X : Type 0} → (X → Type 0) → Option X → Type 0
IsSo P None = Unit {0}
IsSo P (Some x) = P x

pub all-got : {X : Type 0} (P : X → Type 0) (xs : List X) (at : ℕ)
    → AllByRecursion P xs → IsSo P (slice_get xs at)
all-got P [] at all = tt
all-got P (x ∷ xs) zero all = all.0
all-got P (x ∷ xs) (suc at) all = all-got P xs at all.1

-- a place that a test lets through, or that stands only where it fails
pub all-when : (P : ℕ → Type 0) (holds : Bool) (at : ℕ) → P at
    → AllByRecursion P (if holds then at ∷ [] else [])
all-when P true at is = (is, tt)
all-when P false at is = tt

pub all-unless : (P : ℕ → Type 0) (holds : Bool) (at : ℕ) → P at
    → AllByRecursion P (unless holds at)
all-unless P true at is = tt
all-unless P false at is = (is, tt)
