-- Facts of all elements of lists.
use Rattle.std.proofs.Common.{List, [], ◌∷◌, ◌++◌}
use Rattle.std.specs.List.{AllByRecursion}

module _ {X : Type 0} where
  pub all-joined : (P : X → Type 0) (xs ys : List X) → AllByRecursion P xs → AllByRecursion P ys → AllByRecursion P (xs ++ ys)
  all-joined P [] ys one two = two
  all-joined P (x ∷ xs) ys one two = (one.0, all-joined P xs ys one.1 two)

  pub all-each : (P Q : X → Type 0) (xs : List X) → ((x : X) → P x → Q x) → AllByRecursion P xs → AllByRecursion Q xs
  all-each P Q [] so all = tt
  all-each P Q (x ∷ xs) so all = (so x all.0, all-each P Q xs so all.1)

  pub all-zipped : (P Q R : X → Type 0) (xs : List X) → ((x : X) → P x → Q x → R x) → AllByRecursion P xs → AllByRecursion Q xs → AllByRecursion R xs
  all-zipped P Q R [] so one two = tt
  all-zipped P Q R (x ∷ xs) so one two = (so x one.0 two.0, all-zipped P Q R xs so one.1 two.1)
