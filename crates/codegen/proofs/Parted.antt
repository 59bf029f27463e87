-- What holds of each item of a list holds of the items of its parts.
use Rattle.std.proofs.Common.{List, [], ◌∷◌, ◌++◌}
use Rattle.std.specs.Prelude.{flat_map}
use Rattle.std.specs.List.{AllByRecursion}

module _ {X : Type 0} (P : X → Type 0) where
  pub all-left : (xs ys : List X) → AllByRecursion P (xs ++ ys) → AllByRecursion P xs
  all-left [] ys all = tt
  all-left (x ∷ xs) ys all = (all.0, all-left xs ys all.1)

  pub all-right : (xs ys : List X) → AllByRecursion P (xs ++ ys) → AllByRecursion P ys
  all-right [] ys all = all
  all-right (x ∷ xs) ys all = all-right xs ys all.1

  pub all-both : (xs ys : List X) → AllByRecursion P xs → AllByRecursion P ys → AllByRecursion P (xs ++ ys)
  all-both [] ys first second = second
  all-both (x ∷ xs) ys first second = (first.0, all-both xs ys first.1 second)

  -- and those of each part
  pub all-joined : {Y : Type 0} (part : Y → List X) (ys : List Y) → AllByRecursion (λ y. AllByRecursion P (part y)) ys → AllByRecursion P (flat_map part ys)
  all-joined part [] all = tt
  all-joined part (y ∷ ys) all = all-both (part y) (flat_map part ys) all.0 (all-joined part ys all.1)

  pub all-parts : {Y : Type 0} (part : Y → List X) (ys : List Y) → AllByRecursion P (flat_map part ys) → AllByRecursion (λ y. AllByRecursion P (part y)) ys
  all-parts part [] all = tt
  all-parts part (y ∷ ys) all = (all-left (part y) (flat_map part ys) all, all-parts part ys (all-right (part y) (flat_map part ys) all))

-- one thing holds where another does
pub all-turned : {X : Type 0} (P Q : X → Type 0) → ((x : X) → P x → Q x) → (xs : List X) → AllByRecursion P xs → AllByRecursion Q xs
all-turned P Q turn [] all = tt
all-turned P Q turn (x ∷ xs) all = (turn x all.0, all-turned P Q turn xs all.1)
