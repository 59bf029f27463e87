-- The code of each statement and of each block that fits, by induction on the tree.
use Rattle.std.proofs.Common.{◌≡◌, ℕ, List, [], ◌∷◌, length, map}
use Rattle.std.specs.Prelude.{Bool, true, Option, Some, None, is_some}
use Rattle.std.specs.List.{AllByRecursion}
use Rattle.std.specs.Option.{unwrap_or}
use Rattle.std.proofs.lemmas.Bool.{and_parts, leb-true, true≢false}
use Rattle.std.proofs.Common.{sym}
use Rattle.task_syntax.specs.declared.program.Program.{Program}
use Rattle.task_syntax.specs.declared.expression.Expr.{Expr}
use Rattle.task_syntax.specs.declared.statement.Stmt.{Stmt}
use Rattle.task_syntax.specs.declared.statement.Stmt as S
use Rattle.task_syntax.specs.ProgramLaws.{HasNoEmptyArray}
use Rattle.task_syntax.specs.Names.{task_of, word_count}
use Rattle.task_syntax.specs.Course.{Course}
use Rattle.task_syntax.specs.Cost.{statement_cost, statement_cost_step, expression_cost, expressions_cost, statements_cost}
use Rattle.task_syntax.specs.Depth.{statement_depth, statement_depth_step, expression_depth, body_depth}
use Rattle.task_syntax.specs.LocalCount.{declared_count, declared_step, declared_counts}
use Rattle.task_syntax.specs.Expressions.{expression, expressions}
use Rattle.task_syntax.specs.Statements.{Way, Conduct, next_task, statement, statement_step, statements}
use Rattle.word_code.specs.declared.instruction.Instr.TheVariants as instr
use Rattle.task_check.specs.Endings.{statement_ends, ends_step, block_ends}
use Rattle.task_check.specs.Messages.{statement_gives, statement_gives_step, statements_give}
use Rattle.codegen.specs.Scope.{Scope}
use Rattle.codegen.specs.Templates.{Template, plainly, expression_code, expressions_code, statement_code, statement_code_step, statements_code}
use Rattle.codegen.specs.Fit.{Part, Sparing, expression_names, place_names, statement_names, statement_names_step, statements_names, statement_spares, statement_spares_step, statements_spare, statement_turns, statement_turns_step, statements_turns}
use Rattle.codegen.proofs.Agreement.{names_of}
use Rattle.codegen.proofs.Statements.{Works}
use Rattle.codegen.proofs.Straight.{next_works, halt_works}
use Rattle.codegen.proofs.Gives.{give_works}
use Rattle.codegen.proofs.Variables.{small_slots}
use Rattle.codegen.proofs.Fitting.{good_expression, good_place, all_give, sum-cons}
use Rattle.codegen.proofs.Blocks.{Good, plain_good, nothing_good, then_good, alone_good, declared_good, when_good, either_good, repeat_good}
use Rattle.task_syntax.proofs.Trees.{StatementCases, AllOtherwise, every_statement_of}

module _ (words : List ℕ) (program : Program) (full : HasNoEmptyArray program) where
  abbrev count : ℕ
  count = word_count program.vars

  abbrev pub GoodStatement : Stmt → Type 0
  GoodStatement s = Good words count (statement_names program s) (statement_spares s) (statement_turns s) (statement_gives s) (statement_ends s) (declared_count s) (statement_depth s)
      (statement_cost program s) (statement_code program s) (statement program s)

  abbrev pub GoodBlock : List Stmt → Type 0
  GoodBlock block = Good words count (statements_names program block) (statements_spare block) (statements_turns block) (statements_give block) (block_ends block) (declared_counts block) (body_depth block)
      (statements_cost program block) (statements_code program block) (statements program block)

  layer : (x : S.Stmt-F Stmt) →
      Good words count (statement_names_step program (S.map-Stmt Stmt Part (statement_names program) x)) (statement_spares_step (S.map-Stmt Stmt Sparing statement_spares x))
      (statement_turns_step (S.map-Stmt Stmt Bool statement_turns x)) (statement_gives_step (S.map-Stmt Stmt Bool statement_gives x)) (ends_step (S.map-Stmt Stmt Bool statement_ends x))
      (declared_step (S.map-Stmt Stmt ℕ declared_count x)) (statement_depth_step (S.map-Stmt Stmt ℕ statement_depth x))
      (statement_cost_step program (S.map-Stmt Stmt ℕ (statement_cost program) x))
      (statement_code_step program (S.map-Stmt Stmt Template (statement_code program) x)) (statement_step program (S.map-Stmt Stmt Conduct (statement program) x)) →
      GoodStatement (S.roll-Stmt x)
  layer x h = rw (
    S.fold-roll-Stmt Part (statement_names_step program) x,
    S.fold-roll-Stmt Sparing statement_spares_step x,
    S.fold-roll-Stmt Bool statement_turns_step x,
    S.fold-roll-Stmt Bool statement_gives_step x,
    S.fold-roll-Stmt Bool ends_step x,
    S.fold-roll-Stmt ℕ declared_step x,
    S.fold-roll-Stmt ℕ statement_depth_step x,
    S.fold-roll-Stmt ℕ (statement_cost_step program) x,
    S.fold-roll-Stmt Template (statement_code_step program) x,
    S.fold-roll-Stmt Conduct (statement_step program) x,
  ) h

  block_good : (block : List Stmt) → AllByRecursion GoodStatement block → GoodBlock block
  block_good [] all = nothing_good words count
  block_good (s ∷ []) all =
      alone_good words count (statement_names program s) (statement_spares s) (statement_turns s) (statement_gives s) (statement_ends s) (declared_count s) (statement_depth s) (statement_cost program s)
      (declared_counts (s ∷ [])) (statements_cost program (s ∷ [])) (statement_code program s) (statement program s) all.0
      (sum-cons (declared_count s) []) (sum-cons (statement_cost program s) [])
  block_good (s ∷ t ∷ more) all =
      let rest = block_good (t ∷ more) all.1 in
      then_good words count (statement_names program s) (statements_names program (t ∷ more)) (statement_spares s) (statements_spare (t ∷ more)) (statement_turns s) (statements_turns (t ∷ more)) (statement_gives s) (statements_give (t ∷ more))
      (statement_ends s) (block_ends (t ∷ more)) (declared_count s) (declared_counts (t ∷ more)) (statement_depth s) (body_depth (t ∷ more)) (statement_cost program s) (statements_cost program (t ∷ more))
      (declared_counts (s ∷ t ∷ more)) (statements_cost program (s ∷ t ∷ more)) (statement_code program s) (statements_code program (t ∷ more)) (statement program s) (statements program (t ∷ more))
      all.0 rest (sum-cons (declared_count s) (map declared_count (t ∷ more))) (sum-cons (statement_cost program s) (map (statement_cost program) (t ∷ more)))

  next_goes : (scope : Scope) (loops : List (List ℕ)) (task : Option ℕ) → is_some task ≡ true →
      Works words count true scope loops (plainly (λ locals. instr.Next (unwrap_or task 0) ∷ []) scope) 1 (λ values. Course.ends (Way.out (next_task task)))
  next_goes scope loops None h = absurd (true≢false (sym h))
  next_goes scope loops (Some task) h = next_works words count scope loops task

  chosen_good : (condition : Expr) (block : List Stmt) (other : Option (List Stmt)) → AllByRecursion GoodStatement block → AllOtherwise GoodStatement other →
      GoodStatement (S.roll-Stmt (S.Stmt-F.If condition block other))
  chosen_good condition block None all rest = layer (S.Stmt-F.If condition block None)
      (when_good words count (expression_names program condition) (expression_depth condition) (expression_cost condition) (expression_code program condition) (expression program condition)
      (good_expression words program full condition) _ _ _ _ _ _ _ _ _ _ (block_good block all))
  chosen_good condition block (Some other) all rest = layer (S.Stmt-F.If condition block (Some other))
      (either_good words count (expression_names program condition) (expression_depth condition) (expression_cost condition) (expression_code program condition) (expression program condition)
      (good_expression words program full condition) _ _ _ _ _ _ _ _ _ _ (block_good block all) _ _ _ _ _ _ _ _ _ _ (block_good other rest))

  cases : StatementCases GoodStatement
  cases = record {
    declared = λ name e. layer (S.Stmt-F.Let name e)
        (declared_good words count name.text (expression_names program e) (expression_depth e) (expression_cost e) (expression_code program e) (expression program e) (good_expression words program full e));
    assigned = λ place e. layer (S.Stmt-F.Assign place e)
        (plain_good words count _ _ _ _ _ _ _ _ _ (λ scope loops sound small fit spared turned given deep.
        let f = and_parts (place_names program place (names_of scope.locals)) (expression_names program e (names_of scope.locals)) fit in
        (good_place words program full place).write scope loops sound small f.0 spared (expression_code program e) (expression_depth e) (expression_cost e) (expression program e) deep
        (good_expression words program full e scope.locals (small_slots scope loops sound small) f.1)));
    chosen = chosen_good;
    repeated = λ name most block all. layer (S.Stmt-F.Repeat name most block) (repeat_good words count name.text most _ _ _ _ _ _ _ _ _ _ (block_good block all));
    next = λ name. layer (S.Stmt-F.Next name)
        (plain_good words count _ _ _ _ _ _ _ _ _ (λ scope loops sound small fit spared turned given deep. next_goes scope loops (task_of program name.text) fit));
    halt = λ at. layer (S.Stmt-F.Halt at)
        (plain_good words count _ _ _ _ _ _ _ _ _ (λ scope loops sound small fit spared turned given deep. halt_works words count scope loops));
    give = λ es at. layer (S.Stmt-F.Give es at)
        (plain_good words count _ _ _ _ _ _ _ _ _ (λ scope loops sound small fit spared turned given deep.
        give_works words count scope loops (expressions_code program es) (length es) (map expression_depth es) (expressions_cost es) (expressions program es)
        (leb-true (length es) 4 given) deep (all_give words program full es scope.locals (small_slots scope loops sound small) fit)));
  }

  pub good_block : (block : List Stmt) → GoodBlock block
  good_block block = block_good block (every_statement_of GoodStatement cases block)
