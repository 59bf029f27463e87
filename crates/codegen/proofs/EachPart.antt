-- What holds of the items of all parts holds of those of each.
use Rattle.std.proofs.Common.{List}
use Rattle.std.specs.Prelude.{All, flat_map}
use Rattle.std.proofs.lemmas.List.Elements.{All-from_recursion, recursion_from_All}
use Rattle.codegen.proofs.Parted.{all-parts, all-turned}

pub each_part : {X Y : Type 0} (P : X → Type 0) (part : Y → List X) (ys : List Y) → All P (flat_map part ys) → All (λ y. All P (part y)) ys
each_part P part ys all =
    All-from_recursion (λ y. All P (part y)) ys
    (all-turned _ _ (λ y. All-from_recursion P (part y)) ys (all-parts P part ys (recursion_from_All P (flat_map part ys) all)))
