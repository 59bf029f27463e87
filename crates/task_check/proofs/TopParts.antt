-- Variables that are named, found part by part, and of a statement by itself and in its blocks.
use Rattle.std.proofs.Common.{◌≡◌, ◌∙◌, ℕ, List, ◌++◌, refl, ap, sym, append-nil}
use Rattle.std.specs.List.{concat}
use Rattle.coati_word.specs.declared.operator.Op.{Op}
use Rattle.task_syntax.specs.declared.program.Program.{Program}
use Rattle.task_syntax.specs.declared.expression.Expr.{Expr}
use Rattle.task_syntax.specs.declared.expression.Expr.TheVariants.{Two}
use Rattle.task_syntax.specs.declared.expression.Place.{Place}
use Rattle.task_syntax.specs.declared.statement.Stmt.{Stmt}
use Rattle.task_syntax.specs.declared.statement.Stmt as S
use Rattle.task_syntax.specs.declared.statement.Stmt.TheVariants.{Assign, rolls-Assign}
use Rattle.task_check.specs.Tops.{read_step, place_step, in_expression, in_place, named_step}
use Rattle.task_check.specs.Blocks.{in_other}
use Rattle.task_check.specs.Least.{lesser, least}
use Rattle.task_check.specs.Within.{bare, bare_step}
use Rattle.task_check.proofs.Folds.{fold-two}
use Rattle.task_check.proofs.LeastParts.{least-append}
use Rattle.task_check.proofs.WithinParts.{Divides}

module _ (program : Program) where
  pub least-two : (op : Op) (left right : Expr) → least (in_expression program (Two op left right)) ≡ lesser (least (in_expression program left)) (least (in_expression program right))
  least-two op left right =
      ap least (fold-two (List ℕ) (List ℕ) (read_step program) (place_step program) op left right) ∙ least-append (in_expression program left) (in_expression program right)

  pub least-assign : (place : Place) (e : Expr) → least (named_step program (bare (Assign place e))) ≡ lesser (least (in_place program place)) (least (in_expression program e))
  least-assign place e =
      ap (λ (s : Stmt). least (named_step program (bare s))) (sym (rolls-Assign place e))
      ∙ ap (λ (x : S.Stmt-F Stmt). least (named_step program (bare_step x))) (S.out-roll-Stmt (S.Stmt-F.Assign place e))
      ∙ least-append (in_place program place) (in_expression program e)

  pub of_names : Divides (named_step program)
  of_names = record {
    chosen = λ condition block other.
        least-append (in_expression program condition) (concat block ++ in_other other)
        ∙ ap (λ (own : List ℕ). lesser (least own) (least (concat block ++ in_other other))) (sym (append-nil (in_expression program condition)));
    repeated = λ name count block. refl;
  }
