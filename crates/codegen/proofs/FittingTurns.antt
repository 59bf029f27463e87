-- Loops of an accepted program have at most 50,000 turns.
use Rattle.std.proofs.Common.{◌≡◌, ℕ, List, [], ◌∷◌, refl, sym, ◌∙◌}
use Rattle.std.specs.Prelude.{Bool, true, nat_le, Option, Some, None}
use Rattle.std.specs.Cmp.{second_so}
use Rattle.std.proofs.lemmas.Bool.{and_from}
use Rattle.std.specs.List.{AllByRecursion}
use Rattle.task_syntax.specs.declared.program.Program.{Program}
use Rattle.task_syntax.specs.declared.name.Name.{Name}
use Rattle.task_syntax.specs.declared.expression.Expr.{Expr}
use Rattle.task_syntax.specs.declared.statement.Stmt.{Stmt}
use Rattle.task_syntax.specs.declared.statement.Stmt as S
use Rattle.task_check.specs.Bodies.{BodyRead}
use Rattle.task_check.specs.Counts.{is_between, bad_loops, bad_loops_step, bad_loops_among}
use Rattle.task_check.specs.Least.{unless}
use Rattle.codegen.specs.Fit.{statement_turns_step, statement_turns, statements_turns}
use Rattle.task_syntax.proofs.Trees.{StatementCases, AllOtherwise, every_statement_of}
use Rattle.task_check.proofs.NoPlaces.{first-empty, second-empty, held}
use Rattle.codegen.proofs.KeptRules.{KeepsRules}

-- a statement without a loop of another count
abbrev Turns : Stmt → Type 0
Turns statement = bad_loops statement ≡ [] → statement_turns statement ≡ true

rolled : (x : S.Stmt-F Stmt) →
    (bad_loops_step (S.map-Stmt Stmt (List ℕ) bad_loops x) ≡ [] → statement_turns_step (S.map-Stmt Stmt Bool statement_turns x) ≡ true) → Turns (S.roll-Stmt x)
rolled x turns none = S.fold-roll-Stmt Bool statement_turns_step x ∙ turns (sym (S.fold-roll-Stmt (List ℕ) bad_loops_step x) ∙ none)

block-turns : (block : List Stmt) → AllByRecursion Turns block → bad_loops_among block ≡ [] → statements_turns block ≡ true
block-turns [] each none = refl
block-turns (first ∷ more) each none =
    and_from (statement_turns first) (statements_turns more)
    (each.0 (first-empty (bad_loops first) (bad_loops_among more) none)) (block-turns more each.1 (second-empty (bad_loops first) (bad_loops_among more) none))

chosen-turns : (condition : Expr) (block : List Stmt) (other : Option (List Stmt)) → AllByRecursion Turns block → AllOtherwise Turns other →
    Turns (S.roll-Stmt (S.Stmt-F.If condition block other))
chosen-turns condition block None each rest = rolled (S.Stmt-F.If condition block None) (λ none.
    and_from (statements_turns block) true (block-turns block each (first-empty (bad_loops_among block) [] none)) refl)
chosen-turns condition block (Some other) each rest = rolled (S.Stmt-F.If condition block (Some other)) (λ none.
    and_from (statements_turns block) (statements_turns other)
    (block-turns block each (first-empty (bad_loops_among block) (bad_loops_among other) none))
    (block-turns other rest (second-empty (bad_loops_among block) (bad_loops_among other) none)))

repeated-turns : (name : Name) (count : ℕ) (block : List Stmt) → AllByRecursion Turns block → Turns (S.roll-Stmt (S.Stmt-F.Repeat name count block))
repeated-turns name count block each = rolled (S.Stmt-F.Repeat name count block) (λ none.
    let here = unless (is_between 1 50000 count) name.at in
    and_from (nat_le count 50000) (statements_turns block)
    (second_so (nat_le 1 count) (nat_le count 50000) (held (is_between 1 50000 count) name.at (first-empty here (bad_loops_among block) none)))
    (block-turns block each (second-empty here (bad_loops_among block) none)))

turns : StatementCases Turns
turns = record {
  declared = λ name e. rolled (S.Stmt-F.Let name e) (λ none. refl);
  assigned = λ place e. rolled (S.Stmt-F.Assign place e) (λ none. refl);
  chosen = chosen-turns;
  repeated = repeated-turns;
  next = λ name. rolled (S.Stmt-F.Next name) (λ none. refl);
  halt = λ at. rolled (S.Stmt-F.Halt at) (λ none. refl);
  give = λ es at. rolled (S.Stmt-F.Give es at) (λ none. refl);
}

pub few_turns : (program : Program) (body : BodyRead) → KeepsRules program body → statements_turns body.statements ≡ true
few_turns program body keeps = block-turns body.statements (every_statement_of Turns turns body.statements) keeps.turns
