-- The greatest of costs, in 32 bits.
use Rattle.std.proofs.Common.{◌≡◌, ℕ, List, [], ◌∷◌, ◌++◌, map, refl, sym, ap, ◌∙◌, arith}
use Rattle.std.specs.Prelude.{max, flat_map}
use Rattle.std.proofs.lemmas.List.{map-append}
use Rattle.task_syntax.specs.Depth.{greatest}
use Rattle.task_syntax.specs.Saturated.{saturated}
use Rattle.task_cost.proofs.Turns.{IsGreatestOf}

max_assoc : (a b c : ℕ) → max (max a b) c ≡ max a (max b c)
max_assoc a b c = omega arith

greatest_joined : (xs ys : List ℕ) → greatest (xs ++ ys) ≡ max (greatest xs) (greatest ys)
greatest_joined [] ys = omega arith
greatest_joined (x ∷ xs) ys = ap (max x) (greatest_joined xs ys) ∙ sym (max_assoc x (greatest xs) (greatest ys))

-- in 32 bits the greatest stays the greatest
pub saturated_max : (a b : ℕ) → saturated (max a b) ≡ max (saturated a) (saturated b)
saturated_max a b = omega arith

-- the greatest cost of some items
pub of_costs : {X : Type 0} (cost : X → ℕ) → IsGreatestOf (λ (xs : List X). saturated (greatest (map cost xs))) (λ (x : X). saturated (cost x))
of_costs cost = record {
  empty = refl;
  cons = λ x xs. saturated_max (cost x) (greatest (map cost xs));
}

-- the greatest cost of what some items hold
pub of_held : {X Y : Type 0} (held : X → List Y) (cost : Y → ℕ) →
    IsGreatestOf (λ (xs : List X). saturated (greatest (map cost (flat_map held xs)))) (λ (x : X). saturated (greatest (map cost (held x))))
of_held held cost = record {
  empty = refl;
  cons = λ x xs.
      ap saturated (ap greatest (map-append cost (held x) (flat_map held xs)) ∙ greatest_joined (map cost (held x)) (map cost (flat_map held xs)))
      ∙ saturated_max (greatest (map cost (held x))) (greatest (map cost (flat_map held xs)));
}
