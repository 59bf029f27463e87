-- Facts of the parts of a program whose places are of a kind: what has to be shown of each form of
-- expressions and of statements, and what that says of a program.
use Rattle.std.proofs.Common.{ℕ, List}
use Rattle.std.specs.Prelude.{Option, Some, None}
use Rattle.std.specs.List.{AllByRecursion}
use Rattle.coati_word.specs.declared.operator.Op.{Op}
use Rattle.coati_word.specs.declared.operator.Op1.{Op1}
use Rattle.task_syntax.specs.declared.expression.Expr.{Expr}
use Rattle.task_syntax.specs.declared.expression.Expr.TheVariants.{Num, Get, One, Two}
use Rattle.task_syntax.specs.declared.expression.Place.{Place}
use Rattle.task_syntax.specs.declared.expression.Place.TheVariants.{Plain, Item}
use Rattle.task_syntax.specs.declared.name.Name.{Name}
use Rattle.task_syntax.specs.declared.name.Number.{Number}
use Rattle.task_syntax.specs.declared.program.Event.{Event}
use Rattle.task_syntax.specs.declared.program.Program.{Program}
use Rattle.task_syntax.specs.declared.program.TaskDecl.{TaskDecl}
use Rattle.task_syntax.specs.declared.program.UnitDecl.{UnitDecl}
use Rattle.task_syntax.specs.declared.program.UnitDecl.TheVariants.{Lone, Tx}
use Rattle.task_syntax.specs.declared.program.Var.{Var}
use Rattle.task_syntax.specs.declared.statement.Stmt.{Stmt}
use Rattle.task_syntax.specs.declared.statement.Stmt.TheVariants.{Let, Assign, If, Repeat, Next, Halt, Give}

-- of each element of a block behind `else`, where there is one
abbrev pub AllOther : {X : Type 0} → (X → Type 0) → Option (List X) → Type 0
AllOther P None = Unit {0}
AllOther P (Some block) = AllByRecursion P block

module _ (IsPlace : ℕ → Type 0) where
  -- a name stands at such a place
  abbrev pub IsNameAt : Name → Type 0
  IsNameAt name = IsPlace name.at

  -- of each form of expressions and places
  pub record ExpressionFacts (OfExpr : Expr → Type 0) (OfPlace : Place → Type 0) : Type 0 where
    pub num : (number : ℕ) → OfExpr (Num number)
    pub get : (place : Place) → OfPlace place → OfExpr (Get place)
    pub one : (op : Op1) (operand : Expr) → OfExpr operand → OfExpr (One op operand)
    pub two : (op : Op) (left right : Expr) → OfExpr left → OfExpr right
        → OfExpr (Two op left right)
    pub plain : (name : Name) → IsNameAt name → OfPlace (Plain name)
    pub item : (name : Name) (index : Expr) → IsNameAt name → OfExpr index
        → OfPlace (Item name index)

  -- of each form of statements
  pub record StatementFacts (OfExpr : Expr → Type 0) (OfPlace : Place → Type 0)
      (OfStmt : Stmt → Type 0) : Type 0 where
    pub declared : (name : Name) (e : Expr) → IsNameAt name → OfExpr e → OfStmt (Let name e)
    pub assigned : (place : Place) (e : Expr) → OfPlace place → OfExpr e
        → OfStmt (Assign place e)
    pub chosen : (condition : Expr) (block : List Stmt) (other : Option (List Stmt))
        → OfExpr condition → AllByRecursion OfStmt block → AllOther OfStmt other
        → OfStmt (If condition block other)
    pub repeated : (name : Name) (count : ℕ) (block : List Stmt) → IsNameAt name
        → AllByRecursion OfStmt block → OfStmt (Repeat name count block)
    pub next : (name : Name) → IsNameAt name → OfStmt (Next name)
    pub halt : (at : ℕ) → IsPlace at → OfStmt (Halt at)
    pub give : (es : List Expr) (at : ℕ) → AllByRecursion OfExpr es → IsPlace at
        → OfStmt (Give es at)

  -- the name of a variable, and the size of a buffer, where there is one
  abbrev pub OfVar : Var → Type 0
  OfVar var = IsNameAt var.name

  abbrev pub OfBuffer : Option Number → Type 0
  OfBuffer None = Unit {0}
  OfBuffer (Some number) = IsPlace number.at

  module _ (OfStmt : Stmt → Type 0) where
    pub record OfTask (task : TaskDecl) : Type 0 where
      pub name : IsNameAt task.name
      pub body : AllByRecursion OfStmt task.body

    pub record OfEvent (event : Event) : Type 0 where
      pub name : IsNameAt event.name
      pub argument : IsNameAt event.argument
      pub top : AllByRecursion OfStmt event.top
      pub params : AllByRecursion IsNameAt event.params
      pub bottom : AllByRecursion OfStmt event.bottom

    abbrev pub OfUnit : UnitDecl → Type 0
    OfUnit (Lone task) = OfTask task
    OfUnit (Tx tx) = IsNameAt tx.name × AllByRecursion OfTask tx.tasks

    pub record OfProgram (program : Program) : Type 0 where
      pub vars : AllByRecursion OfVar program.vars
      pub buffer : OfBuffer program.buffer
      pub events : AllByRecursion OfEvent program.events
      pub units : AllByRecursion OfUnit program.units
