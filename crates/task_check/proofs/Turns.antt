-- Turns of loops that join what they find in each item.
use Rattle.std.proofs.Common.{◌≡◌, ◌∙◌, ℕ, ◌+◌, ◌<◌, List, ◌∷◌, ◌++◌, length, drop, get_or, sym, ap, refl}
use Rattle.std.specs.Prelude.{Option, flat_map}
use Rattle.std.proofs.lemmas.List.{at_drop_more}

-- a function of lists that puts together what it gives of their items
pub record JoinsUp {X A : Type 0} (all : List X → List A) (each : X → List A) : Type 0 where
  pub cons : (x : X) (xs : List X) → all (x ∷ xs) ≡ each x ++ all xs

pub of_each : {X A : Type 0} (each : X → List A) → JoinsUp (flat_map each) each
of_each each = record { cons = λ x xs. refl }

-- what is chosen of a list is joined from what is chosen of its parts
pub record IsJoined {A : Type 0} (join : Option A → Option A → Option A) (choice : List A → Option A) : Type 0 where
  pub assoc : (a b c : Option A) → join (join a b) c ≡ join a (join b c)
  pub append : (xs ys : List A) → choice (xs ++ ys) ≡ join (choice xs) (choice ys)

-- one step of a choice: what is chosen before it is joined with what is chosen here
pub step : {A : Type 0} (join : Option A → Option A → Option A) (choice : List A → Option A) → IsJoined join choice →
    (all here rest : List A) (found chosen result whole : Option A) → all ≡ here ++ rest → chosen ≡ choice here → result ≡ join found chosen →
    join found (choice all) ≡ whole → join result (choice rest) ≡ whole
step {A = A} join choice joined all here rest found chosen result whole split is_chosen is_result before =
    ap (λ (r : Option A). join r (choice rest)) (is_result ∙ ap (join found) is_chosen)
    ∙ joined.assoc found (choice here) (choice rest)
    ∙ ap (join found) (sym (ap choice split ∙ joined.append here rest))
    ∙ before

-- one turn of a loop that chooses among what all items give: `found` is chosen among the items before
pub turn : {X A : Type 0} (join : Option A → Option A → Option A) (choice : List A → Option A) → IsJoined join choice →
    (all : List X → List A) (each : X → List A) → JoinsUp all each → (xs : List X) (index : ℕ) (x : X) (found here result : Option A) →
    index < length xs → x ≡ get_or xs index x → here ≡ choice (each x) → result ≡ join found here →
    join found (choice (all (drop index xs))) ≡ choice (all xs) → join result (choice (all (drop (index + 1) xs))) ≡ choice (all xs)
turn {X = X} {A = A} join choice joined all each joins xs index x found here result below item is_here is_result before =
    step join choice joined (all (drop index xs)) (each (get_or xs index x)) (all (drop (index + 1) xs)) found here result (choice (all xs))
    (at_drop_more all xs index x below ∙ joins.cons (get_or xs index x) (drop (index + 1) xs)) (is_here ∙ ap (λ (y : X). choice (each y)) item) is_result before
