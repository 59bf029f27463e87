-- The depth of a body: the operand words that it needs at most.
use Rattle.std.specs.Prelude.{ℕ, ◌+◌, List, [], ◌∷◌, map, max, Option, Some, None}
use Rattle.task_syntax.specs.declared.expression.Expr.{Expr}
use Rattle.task_syntax.specs.declared.expression.Place.{Place}
use Rattle.task_syntax.specs.declared.expression.Expr.TheOpen.{Expr-F, Place-F}
use Rattle.task_syntax.specs.declared.expression.Expr.TheFolds.{fold-Expr, fold-Place}
use Rattle.task_syntax.specs.declared.statement.Stmt.{Stmt}
use Rattle.task_syntax.specs.declared.statement.Stmt.TheOpen.{Stmt-F}
use Rattle.task_syntax.specs.declared.statement.Stmt.TheFolds.{fold-Stmt}

-- what reading needs at a place whose index has this depth; a place without an index takes the
-- word itself
abbrev pub read_depth : Option ℕ → ℕ
read_depth None = 1
read_depth (Some index) = index

-- what storing a value of this depth needs: an index stays below the value
abbrev pub store_depth : Option ℕ → ℕ → ℕ
store_depth None value = value
store_depth (Some index) value = max index (1 + value)

-- the left side of an operator stays below the right one
abbrev pub expression_depth_step : Expr-F ℕ (Option ℕ) → ℕ
expression_depth_step (Expr-F.Num number) = 1
expression_depth_step (Expr-F.Get index) = read_depth index
expression_depth_step (Expr-F.One op operand) = operand
expression_depth_step (Expr-F.Two op left right) = max left (1 + right)

-- only an item has an index
abbrev pub index_depth_step : Place-F ℕ (Option ℕ) → Option ℕ
index_depth_step (Place-F.Plain name) = None
index_depth_step (Place-F.Item name index) = Some index

-- the depth of an expression
abbrev pub expression_depth : Expr → ℕ
expression_depth = fold-Expr ℕ (Option ℕ) expression_depth_step index_depth_step

-- the depth of a place's index, where it has one
abbrev pub index_depth : Place → Option ℕ
index_depth = fold-Place ℕ (Option ℕ) expression_depth_step index_depth_step

-- the greatest of some depths, and 0 where there are none
abbrev pub greatest : List ℕ → ℕ
greatest [] = 0
greatest (depth ∷ more) = max depth (greatest more)

-- that of the block behind `else`, where there is one
abbrev pub greatest_otherwise : Option (List ℕ) → ℕ
greatest_otherwise None = 0
greatest_otherwise (Some depths) = greatest depths

-- of expressions whose values stay one above another, where `below` of them stand already
abbrev pub stacked : ℕ → List ℕ → ℕ
stacked below [] = 0
stacked below (depth ∷ more) = max (below + depth) (stacked (below + 1) more)

-- one layer of a statement; a loop compares its two numbers
abbrev pub statement_depth_step : Stmt-F ℕ → ℕ
statement_depth_step (Stmt-F.Let name e) = expression_depth e
statement_depth_step (Stmt-F.Assign place e) = store_depth (index_depth place) (expression_depth e)
statement_depth_step (Stmt-F.If condition block other) =
    max (expression_depth condition) (max (greatest block) (greatest_otherwise other))
statement_depth_step (Stmt-F.Repeat name count block) = max 2 (greatest block)
statement_depth_step (Stmt-F.Next name) = 0
statement_depth_step (Stmt-F.Halt at) = 0
statement_depth_step (Stmt-F.Give es at) = stacked 0 (map expression_depth es)

-- the depth of a statement
abbrev pub statement_depth : Stmt → ℕ
statement_depth = fold-Stmt ℕ statement_depth_step

-- the depth of a body
abbrev pub body_depth : List Stmt → ℕ
body_depth stmts = greatest (map statement_depth stmts)
