-- Endings that stand too early are places of a program.
use Rattle.std.proofs.Common.{ℕ, Bool, true, false, List, [], ◌∷◌, map}
use Rattle.std.specs.Prelude.{Option, Some, None, ◌&&◌}
use Rattle.std.specs.List.{AllByRecursion}
use Rattle.task_syntax.specs.declared.body.Kind.{Kind}
use Rattle.task_syntax.specs.declared.program.Program.{Program}
use Rattle.task_syntax.specs.declared.statement.Stmt.{Stmt}
use Rattle.task_check.specs.Endings.{early_ending_places, early_endings, early_in, early_step, in_block, in_other, is_last, is_task, is_top}
use Rattle.rule_places.proofs.Bodies.{Anything, ArePlaces, body-rule}
use Rattle.rule_places.proofs.Folds.{StatementLayers, statement-facts}
use Rattle.rule_places.proofs.Lists.{all-joined, all-mapped, all-unless}
use Rattle.rule_places.proofs.Parts.{AllOther, OfProgram, StatementFacts}

module _ (IsPlace : ℕ → Type 0) where
  -- whether the statement is last or not
  abbrev pub AreEndings : (Bool → List ℕ) → Type 0
  AreEndings found = (last : Bool) → ArePlaces IsPlace (found last)

  abbrev pub EndingsIn : Kind → Stmt → Type 0
  EndingsIn kind s = AreEndings (early_in kind s)

  in_block-at : (block : List (Bool → List ℕ)) → AllByRecursion AreEndings block
      → AreEndings (in_block block)
  in_block-at [] all last = tt
  in_block-at (first ∷ more) all last =
      all-joined IsPlace _ (in_block more last) (all.0 (last && is_last more))
      (in_block-at more all.1 last)

  in_other-at : (other : Option (List (Bool → List ℕ))) → AllOther AreEndings other
      → AreEndings (in_other other)
  in_other-at None all last = tt
  in_other-at (Some block) all last = in_block-at block all last

  endings-layers : (kind : Kind)
      → StatementLayers IsPlace Anything Anything (early_step kind) AreEndings
  endings-layers kind = record {
    declared = λ name e at so last. tt;
    assigned = λ place e at so last. tt;
    chosen = λ condition block other so one more last.
        all-joined IsPlace (in_block block last) (in_other other last)
        (in_block-at block one last) (in_other-at other more last);
    repeated = λ name count block at all last. in_block-at block all false;
    next = λ name at last. all-unless IsPlace (last && is_task kind) name.at at;
    halt = λ place at last. all-unless IsPlace (last && is_task kind) place at;
    give = λ es place so at last. all-unless IsPlace (last && is_top kind) place at;
  }

  pub endings-facts : (kind : Kind) → StatementFacts IsPlace Anything Anything (EndingsIn kind)
  endings-facts kind =
      statement-facts IsPlace Anything Anything (early_step kind) AreEndings (endings-layers kind)

  pub early_ending-at : (program : Program)
      → ((kind : Kind) → OfProgram IsPlace (EndingsIn kind) program)
      → ArePlaces IsPlace (early_ending_places program)
  early_ending-at program of =
      body-rule IsPlace (λ body. body.kind) EndingsIn early_endings
      (λ body is. in_block-at (map (early_in body.kind) body.statements)
      (all-mapped (early_in body.kind) AreEndings body.statements is.statements) true)
      program of
