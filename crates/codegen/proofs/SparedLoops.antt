-- A body that assigns to no loop's name leaves the loops round each of its statements alone.
use Rattle.std.proofs.Common.{◌≡◌, ℕ, List, [], ◌∷◌, ◌++◌, refl, sym, ap, ◌∙◌}
use Rattle.std.specs.Prelude.{Bool, true, false, not, flat_map, Option, Some, None, if◌then◌else◌}
use Rattle.std.proofs.lemmas.Bool.{and_from}
use Rattle.std.specs.List.{AllByRecursion}
use Rattle.task_syntax.specs.declared.program.Program.{Program}
use Rattle.task_syntax.specs.declared.name.Name.{Name}
use Rattle.task_syntax.specs.declared.expression.Expr.{Expr}
use Rattle.task_syntax.specs.declared.expression.Place.{Place}
use Rattle.task_syntax.specs.declared.expression.Place as P
use Rattle.task_syntax.specs.declared.statement.Stmt.{Stmt}
use Rattle.task_syntax.specs.declared.statement.Stmt as S
use Rattle.task_check.specs.Bodies.{BodyRead}
use Rattle.task_check.specs.Loops.{Within, is_among, place_among, plain_name, plain_step, nothing_step, assigned_in, assigned_step, assigned_in_block}
use Rattle.codegen.specs.Fit.{Sparing, place_spares, place_spares_step, expression_spares_step, statement_spares, statement_spares_step, statements_spare}
use Rattle.task_syntax.proofs.Trees.{every_place, StatementCases, AllOtherwise, every_statement_of}
use Rattle.task_check.proofs.NoPlaces.{first-empty, second-empty}
use Rattle.codegen.proofs.KeptRules.{KeepsRules}

-- a place to which no loop's name is assigned
abbrev IsSpared : Place → Type 0
IsSpared place = (loops : List (List ℕ)) → flat_map (place_among loops) (plain_name place) ≡ [] → place_spares place loops ≡ true

not-among : (among : Bool) (at : ℕ) → (if among then at ∷ [] else []) ++ [] ≡ [] → not among ≡ true
not-among true at none = absurd (cc)
not-among false at none = refl

plain-spared : (name : Name) → IsSpared (P.roll-Place (P.Place-F.Plain name))
plain-spared name loops none =
    ap (λ (spares : Sparing). spares loops) (P.fold-roll-Place Sparing Sparing expression_spares_step place_spares_step (P.Place-F.Plain name))
    ∙ not-among (is_among loops name.text) name.at
    (ap (flat_map (place_among loops)) (sym (P.fold-roll-Place (List Name) (List Name) nothing_step plain_step (P.Place-F.Plain name))) ∙ none)

item-spared : (name : Name) (index : Expr) → IsSpared (P.roll-Place (P.Place-F.Item name index))
item-spared name index loops none =
    ap (λ (spares : Sparing). spares loops) (P.fold-roll-Place Sparing Sparing expression_spares_step place_spares_step (P.Place-F.Item name index))

place-spared : (place : Place) → IsSpared place
place-spared = every_place (λ e. Unit {0}) IsSpared (record {
  num = λ value. tt;
  get = λ place spared. tt;
  one = λ op operand done. tt;
  two = λ op left right done also. tt;
  plain = plain-spared;
  item = λ name index done. item-spared name index;
})

-- a statement that assigns to none of the loops round it
abbrev Spares : Stmt → Type 0
Spares statement = (loops : List (List ℕ)) → assigned_in statement loops ≡ [] → statement_spares statement loops ≡ true

rolled : (x : S.Stmt-F Stmt) →
    ((loops : List (List ℕ)) → assigned_step (S.map-Stmt Stmt Within assigned_in x) loops ≡ [] → statement_spares_step (S.map-Stmt Stmt Sparing statement_spares x) loops ≡ true) →
    Spares (S.roll-Stmt x)
rolled x spares loops none =
    ap (λ (spares : Sparing). spares loops) (S.fold-roll-Stmt Sparing statement_spares_step x)
    ∙ spares loops (ap (λ (found : Within). found loops) (sym (S.fold-roll-Stmt Within assigned_step x)) ∙ none)

block-spares : (block : List Stmt) → AllByRecursion Spares block → (loops : List (List ℕ)) → assigned_in_block block loops ≡ [] → statements_spare block loops ≡ true
block-spares [] each loops none = refl
block-spares (first ∷ more) each loops none =
    and_from (statement_spares first loops) (statements_spare more loops)
    (each.0 loops (first-empty (assigned_in first loops) (assigned_in_block more loops) none))
    (block-spares more each.1 loops (second-empty (assigned_in first loops) (assigned_in_block more loops) none))

chosen-spares : (condition : Expr) (block : List Stmt) (other : Option (List Stmt)) → AllByRecursion Spares block → AllOtherwise Spares other →
    Spares (S.roll-Stmt (S.Stmt-F.If condition block other))
chosen-spares condition block None each rest = rolled (S.Stmt-F.If condition block None) (λ loops none.
    and_from (statements_spare block loops) true (block-spares block each loops (first-empty (assigned_in_block block loops) [] none)) refl)
chosen-spares condition block (Some other) each rest = rolled (S.Stmt-F.If condition block (Some other)) (λ loops none.
    and_from (statements_spare block loops) (statements_spare other loops)
    (block-spares block each loops (first-empty (assigned_in_block block loops) (assigned_in_block other loops) none))
    (block-spares other rest loops (second-empty (assigned_in_block block loops) (assigned_in_block other loops) none)))

spares : StatementCases Spares
spares = record {
  declared = λ name e. rolled (S.Stmt-F.Let name e) (λ loops none. refl);
  assigned = λ place e. rolled (S.Stmt-F.Assign place e) (λ loops none. place-spared place loops none);
  chosen = chosen-spares;
  repeated = λ name count block each. rolled (S.Stmt-F.Repeat name count block) (λ loops none. block-spares block each (name.text ∷ loops) none);
  next = λ name. rolled (S.Stmt-F.Next name) (λ loops none. refl);
  halt = λ at. rolled (S.Stmt-F.Halt at) (λ loops none. refl);
  give = λ es at. rolled (S.Stmt-F.Give es at) (λ loops none. refl);
}

pub loops_spared : (program : Program) (body : BodyRead) → KeepsRules program body → statements_spare body.statements [] ≡ true
loops_spared program body keeps = block-spares body.statements (every_statement_of Spares spares body.statements) [] keeps.loops
