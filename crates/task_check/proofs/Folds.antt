-- What folds give at the layers of a tree that join several parts.
use Rattle.std.proofs.Common.{◌≡◌, ◌∙◌, List, map, ap, sym}
use Rattle.std.specs.Prelude.{Some}
use Rattle.coati_word.specs.declared.operator.Op.{Op}
use Rattle.task_syntax.specs.declared.expression.Expr.{Expr}
use Rattle.task_syntax.specs.declared.expression.Place.{Place}
use Rattle.task_syntax.specs.declared.expression.Expr as E
use Rattle.task_syntax.specs.declared.expression.Place as P
use Rattle.task_syntax.specs.declared.expression.Expr.TheVariants.{Two, rolls-Two}
use Rattle.task_syntax.specs.declared.statement.Stmt.{Stmt}
use Rattle.task_syntax.specs.declared.statement.Stmt as S
use Rattle.task_syntax.specs.declared.statement.Stmt.TheVariants.{If, rolls-If}

module _ (A : Type 0) (step : S.Stmt-F A → A) where
  pub fold-if_else : (condition : Expr) (block other : List Stmt) →
      S.fold-Stmt A step (If condition block (Some other)) ≡ step (S.Stmt-F.If condition (map (S.fold-Stmt A step) block) (Some (map (S.fold-Stmt A step) other)))
  fold-if_else condition block other =
      ap (S.fold-Stmt A step) (sym (rolls-If condition block (Some other))) ∙ S.fold-roll-Stmt A step (S.Stmt-F.If condition block (Some other))

module _ (A B : Type 0) (step : E.Expr-F A B → A) (place_step : P.Place-F A B → B) where
  pub fold-two : (op : Op) (left right : Expr) →
      E.fold-Expr A B step place_step (Two op left right) ≡ step (E.Expr-F.Two op (E.fold-Expr A B step place_step left) (E.fold-Expr A B step place_step right))
  fold-two op left right = ap (E.fold-Expr A B step place_step) (sym (rolls-Two op left right)) ∙ E.fold-roll-Expr A B step place_step (E.Expr-F.Two op left right)
