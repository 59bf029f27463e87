-- The least places of lists and of blocks, put together from those that are answered for each element.
use Rattle.std.proofs.Common.{◌≡◌, ◌∙◌, ℕ, List, [], ◌∷◌, ◌++◌, map, ap, sym}
use Rattle.std.specs.Prelude.{Option, Some, None, flat_map}
use Rattle.std.specs.List.{concat}
use Rattle.std.proofs.lemmas.Grind.{flat_map-append}
use Rattle.task_syntax.specs.declared.name.Name.{Name}
use Rattle.task_syntax.specs.declared.expression.Expr.{Expr}
use Rattle.task_syntax.specs.declared.statement.Stmt.{Stmt}
use Rattle.task_syntax.specs.declared.statement.Stmt as S
use Rattle.task_syntax.specs.declared.statement.Stmt.TheVariants.{If, rolls-If}
use Rattle.task_check.specs.Blocks.{in_other}
use Rattle.task_check.specs.Least.{least, lesser}
use Rattle.task_check.specs.Within.{IsLeastAmong, IsLeastWithin, nested, nested_step, bare, bare_step}
use Rattle.task_check.proofs.LeastParts.{lesser-none, least-append}
use Rattle.task_check.proofs.Places.{concat-map}
use Rattle.task_check.proofs.Turns.{JoinsUp}

-- the places of two lists
least-both : {X : Type 0} (places : X → List ℕ) (xs ys : List X) →
    least (flat_map places (xs ++ ys)) ≡ lesser (least (flat_map places xs)) (least (flat_map places ys))
least-both places xs ys = ap least (flat_map-append places xs ys) ∙ least-append (flat_map places xs) (flat_map places ys)

nested-both : (places : Stmt → List ℕ) (condition : Expr) (block other : List Stmt) →
    least (flat_map places (nested (If condition block (Some other)))) ≡ lesser (least (flat_map places block)) (least (flat_map places other))
nested-both places condition block other =
    ap (λ (s : Stmt). least (flat_map places (nested s))) (sym (rolls-If condition block (Some other)))
    ∙ ap (λ (x : S.Stmt-F Stmt). least (flat_map places (nested_step x))) (S.out-roll-Stmt (S.Stmt-F.If condition block (Some other)))
    ∙ least-both places block other

-- what is found in the two blocks of a choice
pub least-chosen : (places : Stmt → List ℕ) (condition : Expr) (block other : List Stmt) (s : Stmt) (one two found : Option ℕ) → s ≡ If condition block (Some other) →
    one ≡ least (flat_map places block) → two ≡ least (flat_map places other) → found ≡ lesser one two → found ≡ least (flat_map places (nested s))
least-chosen places condition block other s one two found shape first second is =
    is
    ∙ ap (λ (x : Option ℕ). lesser x two) first
    ∙ ap (lesser (least (flat_map places block))) second
    ∙ sym (nested-both places condition block other)
    ∙ ap (λ (t : Stmt). least (flat_map places (nested t))) (sym shape)

-- what is found in a statement, where that is divided
pub least-divided : (places : Stmt → List ℕ) (s : Stmt) (at below found : Option ℕ) → least (places s) ≡ lesser at (least (flat_map places (nested s))) →
    below ≡ least (flat_map places (nested s)) → found ≡ lesser at below → found ≡ least (places s)
least-divided places s at below found divided is_below is = is ∙ ap (lesser at) is_below ∙ sym divided

joins-flat : {X : Type 0} (all : List X → List ℕ) (each : X → List ℕ) → all [] ≡ [] → JoinsUp all each → (xs : List X) → all xs ≡ flat_map each xs
joins-flat all each none joins [] = none
joins-flat all each none joins (x ∷ xs) = joins.cons x xs ∙ ap (λ (rest : List ℕ). each x ++ rest) (joins-flat all each none joins xs)

-- what is found among elements whose places are put together
pub least-among : {X : Type 0} (answers : X → Option ℕ → Type 0) (elements : List X) (found : Option ℕ) → IsLeastAmong answers elements found →
    (all : List X → List ℕ) (each : X → List ℕ) → all [] ≡ [] → JoinsUp all each → ((x : X) (at : Option ℕ) → answers x at → at ≡ least (each x)) → found ≡ least (all elements)
least-among answers elements found is all each none joins answered = is each answered ∙ ap least (sym (joins-flat all each none joins elements))

-- what a layer gives is what it gives by itself, and what its blocks hold
pub record Divides (step : S.Stmt-F (List ℕ) → List ℕ) : Type 0 where
  pub chosen : (condition : Expr) (block : List (List ℕ)) (other : Option (List (List ℕ))) →
      least (step (S.Stmt-F.If condition block other)) ≡ lesser (least (step (S.Stmt-F.If condition [] None))) (least (concat block ++ in_other other))
  pub repeated : (name : Name) (count : ℕ) (block : List (List ℕ)) →
      least (step (S.Stmt-F.Repeat name count block)) ≡ lesser (least (step (S.Stmt-F.Repeat name count []))) (least (concat block))

module _ (step : S.Stmt-F (List ℕ) → List ℕ) (divides : Divides step) where
  abbrev places : Stmt → List ℕ
  places = S.fold-Stmt (List ℕ) step

  in_layer : (x : S.Stmt-F Stmt) → least (step (S.map-Stmt Stmt (List ℕ) places x)) ≡ lesser (least (step (bare_step x))) (least (flat_map places (nested_step x)))
  in_layer (S.Stmt-F.Let name e) = sym (lesser-none (least (step (S.Stmt-F.Let name e))))
  in_layer (S.Stmt-F.Assign place e) = sym (lesser-none (least (step (S.Stmt-F.Assign place e))))
  in_layer (S.Stmt-F.If condition block None) =
      divides.chosen condition (map places block) None
      ∙ ap (λ (found : List ℕ). lesser (least (step (S.Stmt-F.If condition [] None))) (least (found ++ []))) (concat-map places block)
      ∙ ap (λ (found : List ℕ). lesser (least (step (S.Stmt-F.If condition [] None))) (least found)) (sym (flat_map-append places block []))
  in_layer (S.Stmt-F.If condition block (Some other)) =
      divides.chosen condition (map places block) (Some (map places other))
      ∙ ap (λ (found : List ℕ). lesser (least (step (S.Stmt-F.If condition [] None))) (least (found ++ concat (map places other)))) (concat-map places block)
      ∙ ap (λ (found : List ℕ). lesser (least (step (S.Stmt-F.If condition [] None))) (least (flat_map places block ++ found))) (concat-map places other)
      ∙ ap (λ (found : List ℕ). lesser (least (step (S.Stmt-F.If condition [] None))) (least found)) (sym (flat_map-append places block other))
  in_layer (S.Stmt-F.Repeat name count block) =
      divides.repeated name count (map places block)
      ∙ ap (λ (found : List ℕ). lesser (least (step (S.Stmt-F.Repeat name count []))) (least found)) (concat-map places block)
  in_layer (S.Stmt-F.Next name) = sym (lesser-none (least (step (S.Stmt-F.Next name))))
  in_layer (S.Stmt-F.Halt at) = sym (lesser-none (least (step (S.Stmt-F.Halt at))))
  in_layer (S.Stmt-F.Give es at) = sym (lesser-none (least (step (S.Stmt-F.Give es at))))

  -- what a walk finds whose answers are what each statement gives by itself
  pub least-within : (answers : Stmt → Option ℕ → Type 0) (block : List Stmt) (found : Option ℕ) → IsLeastWithin answers block found →
      ((s : Stmt) (at : Option ℕ) → answers s at → at ≡ least (step (bare s))) → found ≡ least (concat (map places block))
  least-within answers block found is each =
      is places (λ s at answered. ap least (S.fold_out-Stmt (List ℕ) step s) ∙ in_layer (S.out-Stmt s) ∙ ap (λ (own : Option ℕ). lesser own (least (flat_map places (nested s)))) (sym (each s at answered)))
      ∙ ap least (sym (concat-map places block))
