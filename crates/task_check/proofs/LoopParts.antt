-- Assignments to the names of loops, found loop by loop.
use Rattle.std.proofs.Common.{◌≡◌, ◌∙◌, ℕ, List, [], ◌∷◌, ◌++◌, refl, ap, sym, Bool, true, false, arith}
use Rattle.std.specs.Prelude.{Option, None, Some, flat_map, min, if◌then◌else◌, ◌||◌}
use Rattle.std.specs.List.{AllByRecursion}
use Rattle.std.specs.Str.{bytes_eq}
use Rattle.task_syntax.specs.declared.name.Name.{Name}
use Rattle.task_syntax.specs.declared.expression.Expr.{Expr}
use Rattle.task_syntax.specs.declared.statement.Stmt.{Stmt}
use Rattle.task_syntax.specs.declared.statement.Stmt as S
use Rattle.task_check.specs.Loops.{is_among, place_among, plain_name, Within, assigned_step, assigned_in, assigned_in_block}
use Rattle.task_check.specs.Assignments.{assigned_by_loop, assigned_by_loop_step, assigns_step, assigns_to, block_assigns_to}
use Rattle.task_check.specs.Least.{lesser, least}
use Rattle.task_check.proofs.LeastParts.{least-append, lesser_swap}
use Rattle.task_syntax.proofs.Trees.{StatementCases, AllOtherwise, every_statement_of}
use Rattle.task_check.proofs.WithinParts.{Divides}
use Rattle.task_check.specs.Within.{IsLeastWithin, nested, nested_step}
use Rattle.std.proofs.lemmas.Grind.{flat_map-append}
use Rattle.std.proofs.lemmas.List.Folds.{flat_map-map}

pub of_assigns : (text : List ℕ) → Divides (assigns_step text)
of_assigns text = record { chosen = λ condition block other. refl; repeated = λ name count block. refl }

-- a name is among these where it is one name or among others
abbrev IsOneMore : List ℕ → List (List ℕ) → List (List ℕ) → Type 0
IsOneMore text loops all = (name : List ℕ) → is_among all name ≡ (bytes_eq name text || is_among loops name)

-- one loop more adds the assignments to its name
abbrev AddsItsOwn : List ℕ → Stmt → Type 0
AddsItsOwn text statement = (loops all : List (List ℕ)) → IsOneMore text loops all →
    least (assigned_in statement all) ≡ lesser (least (assigns_to text statement)) (least (assigned_in statement loops))

either-swap : (a b c : Bool) → (a || (b || c)) ≡ (b || (a || c))
either-swap true true c = refl
either-swap true false c = refl
either-swap false true c = refl
either-swap false false c = refl

one_more_within : (text loop : List ℕ) (loops all : List (List ℕ)) → IsOneMore text loops all → IsOneMore text (loop ∷ loops) (loop ∷ all)
one_more_within text loop loops all is name = ap (λ (among : Bool). bytes_eq name loop || among) (is name) ∙ either-swap (bytes_eq name loop) (bytes_eq name text) (is_among loops name)

least-twice : (at : ℕ) → Some at ≡ Some (min at at)
least-twice at = let same : at ≡ min at at = omega arith in ap (λ (n : ℕ). Some n) same

least-either : (at : ℕ) (a b : Bool) →
    least (if a || b then at ∷ [] else []) ≡ lesser (least (if a || false then at ∷ [] else [])) (least (if b then at ∷ [] else []))
least-either at true true = least-twice at
least-either at true false = refl
least-either at false true = refl
least-either at false false = refl

least-name : (text : List ℕ) (loops all : List (List ℕ)) → IsOneMore text loops all → (name : Name) →
    least (place_among all name) ≡ lesser (least (place_among (text ∷ []) name)) (least (place_among loops name))
least-name text loops all is name =
    ap (λ (among : Bool). least (if among then name.at ∷ [] else [])) (is name.text) ∙ least-either name.at (bytes_eq name.text text) (is_among loops name.text)

least-names : (text : List ℕ) (loops all : List (List ℕ)) → IsOneMore text loops all → (names : List Name) →
    least (flat_map (place_among all) names) ≡ lesser (least (flat_map (place_among (text ∷ [])) names)) (least (flat_map (place_among loops) names))
least-names text loops all is [] = refl
least-names text loops all is (name ∷ more) =
    least-append (place_among all name) (flat_map (place_among all) more)
    ∙ ap (λ (x : Option ℕ). lesser x (least (flat_map (place_among all) more))) (least-name text loops all is name)
    ∙ ap (lesser (lesser (least (place_among (text ∷ []) name)) (least (place_among loops name)))) (least-names text loops all is more)
    ∙ lesser_swap (least (place_among (text ∷ []) name)) (least (place_among loops name)) (least (flat_map (place_among (text ∷ [])) more)) (least (flat_map (place_among loops) more))
    ∙ ap (λ (x : Option ℕ). lesser x (lesser (least (place_among loops name)) (least (flat_map (place_among loops) more)))) (sym (least-append (place_among (text ∷ []) name) (flat_map (place_among (text ∷ [])) more)))
    ∙ ap (lesser (least (flat_map (place_among (text ∷ [])) (name ∷ more)))) (sym (least-append (place_among loops name) (flat_map (place_among loops) more)))

module _ (text : List ℕ) where
  -- what is found of two parts, where that of each part is divided
  parted : (a b p q r s : List ℕ) → least a ≡ lesser (least p) (least q) → least b ≡ lesser (least r) (least s) →
      least (a ++ b) ≡ lesser (least (p ++ r)) (least (q ++ s))
  parted a b p q r s first second =
      least-append a b
      ∙ ap (λ (x : Option ℕ). lesser x (least b)) first
      ∙ ap (lesser (lesser (least p) (least q))) second
      ∙ lesser_swap (least p) (least q) (least r) (least s)
      ∙ ap (λ (x : Option ℕ). lesser x (lesser (least q) (least s))) (sym (least-append p r))
      ∙ ap (lesser (least (p ++ r))) (sym (least-append q s))

  block_adds : (block : List Stmt) → AllByRecursion (AddsItsOwn text) block → (loops all : List (List ℕ)) → IsOneMore text loops all →
      least (assigned_in_block block all) ≡ lesser (least (block_assigns_to text block)) (least (assigned_in_block block loops))
  block_adds [] each loops all is = refl
  block_adds (first ∷ more) each loops all is =
      parted (assigned_in first all) (assigned_in_block more all) (assigns_to text first) (assigned_in first loops) (block_assigns_to text more) (assigned_in_block more loops)
      (each.0 loops all is) (block_adds more each.1 loops all is)

  rolled : (x : S.Stmt-F Stmt) →
      ((loops all : List (List ℕ)) → IsOneMore text loops all →
      least (assigned_step (S.map-Stmt Stmt Within assigned_in x) all) ≡ lesser (least (assigns_step text (S.map-Stmt Stmt (List ℕ) (assigns_to text) x))) (least (assigned_step (S.map-Stmt Stmt Within assigned_in x) loops))) →
      AddsItsOwn text (S.roll-Stmt x)
  rolled x adds loops all is = rw (S.fold-roll-Stmt Within assigned_step x) (rw (S.fold-roll-Stmt (List ℕ) (assigns_step text) x) (adds loops all is))

  chosen_adds : (condition : Expr) (block : List Stmt) (other : Option (List Stmt)) → AllByRecursion (AddsItsOwn text) block → AllOtherwise (AddsItsOwn text) other →
      AddsItsOwn text (S.roll-Stmt (S.Stmt-F.If condition block other))
  chosen_adds condition block None each rest = rolled (S.Stmt-F.If condition block None) (λ loops all is.
      parted (assigned_in_block block all) [] (block_assigns_to text block) (assigned_in_block block loops) [] [] (block_adds block each loops all is) refl)
  chosen_adds condition block (Some other) each rest = rolled (S.Stmt-F.If condition block (Some other)) (λ loops all is.
      parted (assigned_in_block block all) (assigned_in_block other all) (block_assigns_to text block) (assigned_in_block block loops) (block_assigns_to text other) (assigned_in_block other loops)
      (block_adds block each loops all is) (block_adds other rest loops all is))

  layers : StatementCases (AddsItsOwn text)
  layers = record {
    declared = λ name e. rolled (S.Stmt-F.Let name e) (λ loops all is. refl);
    assigned = λ place e. rolled (S.Stmt-F.Assign place e) (λ loops all is. least-names text loops all is (plain_name place));
    chosen = chosen_adds;
    repeated = λ name count block each. rolled (S.Stmt-F.Repeat name count block) (λ loops all is. block_adds block each (name.text ∷ loops) (name.text ∷ all) (one_more_within text name.text loops all is));
    next = λ name. rolled (S.Stmt-F.Next name) (λ loops all is. refl);
    halt = λ at. rolled (S.Stmt-F.Halt at) (λ loops all is. refl);
    give = λ es at. rolled (S.Stmt-F.Give es at) (λ loops all is. refl);
  }

-- one loop round a block adds the assignments to its name
pub least-loop : (text : List ℕ) (block : List Stmt) →
    least (assigned_in_block block (text ∷ [])) ≡ lesser (least (block_assigns_to text block)) (least (assigned_in_block block []))
least-loop text block = block_adds text block (every_statement_of (AddsItsOwn text) (layers text) block) [] (text ∷ []) (λ name. refl)

none-among : (names : List Name) → least (flat_map (place_among []) names) ≡ None
none-among [] = refl
none-among (name ∷ more) = none-among more

-- the assignments of a statement to the names of its loops are those that it divides into
abbrev own : Stmt → List ℕ
own statement = assigned_in statement []

in_block-flat : (block : List Stmt) → assigned_in_block block [] ≡ flat_map own block
in_block-flat block = flat_map-map (λ (found : Within). found []) assigned_in block

in_layer : (x : S.Stmt-F Stmt) → least (assigned_step (S.map-Stmt Stmt Within assigned_in x) []) ≡ lesser (least (assigned_by_loop_step x)) (least (flat_map own (nested_step x)))
in_layer (S.Stmt-F.Let name e) = refl
in_layer (S.Stmt-F.Assign place e) = none-among (plain_name place)
in_layer (S.Stmt-F.If condition block None) = ap (λ (found : List ℕ). least (found ++ [])) (in_block-flat block) ∙ ap least (sym (flat_map-append own block []))
in_layer (S.Stmt-F.If condition block (Some other)) =
    ap (λ (found : List ℕ). least (found ++ assigned_in_block other [])) (in_block-flat block)
    ∙ ap (λ (found : List ℕ). least (flat_map own block ++ found)) (in_block-flat other)
    ∙ ap least (sym (flat_map-append own block other))
in_layer (S.Stmt-F.Repeat name count block) = least-loop name.text block ∙ ap (λ (found : List ℕ). lesser (least (block_assigns_to name.text block)) (least found)) (in_block-flat block)
in_layer (S.Stmt-F.Next name) = refl
in_layer (S.Stmt-F.Halt at) = refl
in_layer (S.Stmt-F.Give es at) = refl

pub least-assigned : (answers : Stmt → Option ℕ → Type 0) (block : List Stmt) (found : Option ℕ) → IsLeastWithin answers block found →
    ((s : Stmt) (at : Option ℕ) → answers s at → at ≡ least (assigned_by_loop s)) → found ≡ least (assigned_in_block block [])
least-assigned answers block found is each =
    is own (λ s at answered.
    ap (λ (f : Within). least (f [])) (S.fold_out-Stmt Within assigned_step s) ∙ in_layer (S.out-Stmt s)
    ∙ ap (λ (found : Option ℕ). lesser found (least (flat_map own (nested s)))) (sym (each s at answered)))
    ∙ ap least (sym (in_block-flat block))
