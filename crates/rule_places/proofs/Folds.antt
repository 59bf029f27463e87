-- What holds of what is folded from a program's tree, told from each layer.
use Rattle.std.proofs.Common.{◌≡◌, ◌∙◌, ℕ, List, ap, map, subst, sym}
use Rattle.std.specs.Prelude.{Option, Some, None}
use Rattle.std.specs.List.{AllByRecursion}
use Rattle.coati_word.specs.declared.operator.Op.{Op}
use Rattle.coati_word.specs.declared.operator.Op1.{Op1}
use Rattle.task_syntax.specs.declared.expression.Expr.{Expr}
use Rattle.task_syntax.specs.declared.expression.Expr as E
use Rattle.task_syntax.specs.declared.expression.Expr.TheFolds.{fold-Expr, fold-Place}
use Rattle.task_syntax.specs.declared.expression.Expr.TheVariants.{Num, Get, One, Two, rolls-Num, rolls-Get, rolls-One, rolls-Two}
use Rattle.task_syntax.specs.declared.expression.Place.{Place}
use Rattle.task_syntax.specs.declared.expression.Place as P
use Rattle.task_syntax.specs.declared.expression.Place.TheVariants.{Plain, Item, rolls-Plain, rolls-Item}
use Rattle.task_syntax.specs.declared.name.Name.{Name}
use Rattle.task_syntax.specs.declared.statement.Stmt.{Stmt}
use Rattle.task_syntax.specs.declared.statement.Stmt as S
use Rattle.task_syntax.specs.declared.statement.Stmt.TheFolds.{fold-Stmt}
use Rattle.task_syntax.specs.declared.statement.Stmt.TheVariants.{Let, Assign, If, Repeat, Next, Halt, Give, rolls-Let, rolls-Assign, rolls-If, rolls-Repeat, rolls-Next, rolls-Halt, rolls-Give}
use Rattle.rule_places.proofs.Lists.{all-mapped}
use Rattle.rule_places.proofs.Parts.{AllOther, ExpressionFacts, IsNameAt, StatementFacts}

module _ (IsPlace : ℕ → Type 0) where
  module _ {X Y : Type 0} (expr_step : E.Expr-F X Y → X) (place_step : P.Place-F X Y → Y)
      (OfX : X → Type 0) (OfY : Y → Type 0) where
    pub record ExpressionLayers : Type 0 where
      pub num : (number : ℕ) → OfX (expr_step (E.Expr-F.Num number))
      pub get : (place : Y) → OfY place → OfX (expr_step (E.Expr-F.Get place))
      pub one : (op : Op1) (operand : X) → OfX operand → OfX (expr_step (E.Expr-F.One op operand))
      pub two : (op : Op) (left right : X) → OfX left → OfX right
          → OfX (expr_step (E.Expr-F.Two op left right))
      pub plain : (name : Name) → IsNameAt IsPlace name → OfY (place_step (P.Place-F.Plain name))
      pub item : (name : Name) (index : X) → IsNameAt IsPlace name → OfX index
          → OfY (place_step (P.Place-F.Item name index))

    abbrev of_expr : Expr → X
    of_expr = fold-Expr X Y expr_step place_step

    abbrev of_place : Place → Y
    of_place = fold-Place X Y expr_step place_step

    expression : (x : E.Expr-F Expr Place) (e : Expr) → E.roll-Expr x ≡ e
        → OfX (expr_step (E.map-Expr Expr Place X Y of_expr of_place x))
        → OfX (of_expr e)
    expression x e is so =
        subst OfX (sym (E.fold-roll-Expr X Y expr_step place_step x) ∙ ap of_expr is) so

    placed : (x : P.Place-F Expr Place) (p : Place) → P.roll-Place x ≡ p
        → OfY (place_step (P.map-Place Expr Place X Y of_expr of_place x))
        → OfY (of_place p)
    placed x p is so =
        subst OfY (sym (P.fold-roll-Place X Y expr_step place_step x) ∙ ap of_place is) so

    pub expression-facts : ExpressionLayers
        → ExpressionFacts IsPlace (λ e. OfX (of_expr e)) (λ p. OfY (of_place p))
    expression-facts layers = record {
      num = λ number. expression (E.Expr-F.Num number) (Num number) (rolls-Num number)
          (layers.num number);
      get = λ place so. expression (E.Expr-F.Get place) (Get place) (rolls-Get place)
          (layers.get _ so);
      one = λ op operand so. expression (E.Expr-F.One op operand) (One op operand)
          (rolls-One op operand) (layers.one op _ so);
      two = λ op left right one other. expression (E.Expr-F.Two op left right)
          (Two op left right) (rolls-Two op left right) (layers.two op _ _ one other);
      plain = λ name so. placed (P.Place-F.Plain name) (Plain name) (rolls-Plain name)
          (layers.plain name so);
      item = λ name index so at. placed (P.Place-F.Item name index) (Item name index)
          (rolls-Item name index) (layers.item name _ so at);
    }

  module _ (OfExpr : Expr → Type 0) (OfPlace : Place → Type 0) {X : Type 0}
      (step : S.Stmt-F X → X) (OfX : X → Type 0) where
    pub record StatementLayers : Type 0 where
      pub declared : (name : Name) (e : Expr) → IsNameAt IsPlace name → OfExpr e
          → OfX (step (S.Stmt-F.Let name e))
      pub assigned : (place : Place) (e : Expr) → OfPlace place → OfExpr e
          → OfX (step (S.Stmt-F.Assign place e))
      pub chosen : (condition : Expr) (block : List X) (other : Option (List X))
          → OfExpr condition → AllByRecursion OfX block → AllOther OfX other
          → OfX (step (S.Stmt-F.If condition block other))
      pub repeated : (name : Name) (count : ℕ) (block : List X) → IsNameAt IsPlace name
          → AllByRecursion OfX block → OfX (step (S.Stmt-F.Repeat name count block))
      pub next : (name : Name) → IsNameAt IsPlace name → OfX (step (S.Stmt-F.Next name))
      pub halt : (at : ℕ) → IsPlace at → OfX (step (S.Stmt-F.Halt at))
      pub give : (es : List Expr) (at : ℕ) → AllByRecursion OfExpr es → IsPlace at
          → OfX (step (S.Stmt-F.Give es at))

    abbrev of_stmt : Stmt → X
    of_stmt = fold-Stmt X step

    statement : (x : S.Stmt-F Stmt) (s : Stmt) → S.roll-Stmt x ≡ s
        → OfX (step (S.map-Stmt Stmt X of_stmt x)) → OfX (of_stmt s)
    statement x s is so =
        subst OfX (sym (S.fold-roll-Stmt X step x) ∙ ap of_stmt is) so

    module _ (layers : StatementLayers) where
      folded : (block : List Stmt) → AllByRecursion (λ s. OfX (of_stmt s)) block
          → AllByRecursion OfX (map of_stmt block)
      folded block all = all-mapped of_stmt OfX block all

      if-fact : (condition : Expr) (block : List Stmt) (other : Option (List Stmt))
          → OfExpr condition → AllByRecursion (λ s. OfX (of_stmt s)) block
          → AllOther (λ s. OfX (of_stmt s)) other
          → OfX (of_stmt (If condition block other))
      if-fact condition block None so one other =
          statement (S.Stmt-F.If condition block None) (If condition block None)
          (rolls-If condition block None)
          (layers.chosen condition _ None so (folded block one) tt)
      if-fact condition block (Some more) so one other =
          statement (S.Stmt-F.If condition block (Some more)) (If condition block (Some more))
          (rolls-If condition block (Some more))
          (layers.chosen condition _ (Some (map of_stmt more)) so (folded block one)
          (folded more other))

      pub statement-facts : StatementFacts IsPlace OfExpr OfPlace (λ s. OfX (of_stmt s))
      statement-facts = record {
        declared = λ name e at so. statement (S.Stmt-F.Let name e) (Let name e)
            (rolls-Let name e) (layers.declared name e at so);
        assigned = λ place e at so. statement (S.Stmt-F.Assign place e) (Assign place e)
            (rolls-Assign place e) (layers.assigned place e at so);
        chosen = if-fact;
        repeated = λ name count block at so. statement (S.Stmt-F.Repeat name count block)
            (Repeat name count block) (rolls-Repeat name count block)
            (layers.repeated name count _ at (folded block so));
        next = λ name at. statement (S.Stmt-F.Next name) (Next name) (rolls-Next name)
            (layers.next name at);
        halt = λ place at. statement (S.Stmt-F.Halt place) (Halt place) (rolls-Halt place)
            (layers.halt place at);
        give = λ es place so at. statement (S.Stmt-F.Give es place) (Give es place)
            (rolls-Give es place) (layers.give es place so at);
      }
