-- Variables that a top half names. It may name none: it looks at what was posted alone.
use Rattle.std.specs.Prelude.{ℕ, List, [], ◌∷◌, ◌++◌, map, flat_map, is_some, if◌then◌else◌}
use Rattle.std.specs.List.{concat}
use Rattle.task_syntax.specs.declared.program.Program.{Program}
use Rattle.task_syntax.specs.declared.name.Name.{Name}
use Rattle.task_syntax.specs.declared.expression.Expr.{Expr}
use Rattle.task_syntax.specs.declared.expression.Place.{Place}
use Rattle.task_syntax.specs.declared.expression.Expr.TheOpen.{Expr-F, Place-F}
use Rattle.task_syntax.specs.declared.expression.Expr.TheFolds.{fold-Expr, fold-Place}
use Rattle.task_syntax.specs.declared.statement.Stmt.{Stmt}
use Rattle.task_syntax.specs.declared.statement.Stmt.TheOpen.{Stmt-F}
use Rattle.task_syntax.specs.declared.statement.Stmt.TheFolds.{fold-Stmt}
use Rattle.task_syntax.specs.Names.{words_of}
use Rattle.task_check.specs.Blocks.{in_other}

module _ (program : Program) where
  -- the place of a name, where it is a variable's
  abbrev pub variable_at : Name → List ℕ
  variable_at name = if is_some (words_of program name.text) then name.at ∷ [] else []

  -- one layer of an expression
  abbrev pub read_step : Expr-F (List ℕ) (List ℕ) → List ℕ
  read_step (Expr-F.Num number) = []
  read_step (Expr-F.Get place) = place
  read_step (Expr-F.One op operand) = operand
  read_step (Expr-F.Two op left right) = left ++ right

  -- one layer of a place
  abbrev pub place_step : Place-F (List ℕ) (List ℕ) → List ℕ
  place_step (Place-F.Plain name) = variable_at name
  place_step (Place-F.Item name index) = variable_at name ++ index

  -- the variables that an expression names
  abbrev pub in_expression : Expr → List ℕ
  in_expression = fold-Expr (List ℕ) (List ℕ) read_step place_step

  -- the variables that a place names, those of its index among them
  abbrev pub in_place : Place → List ℕ
  in_place = fold-Place (List ℕ) (List ℕ) read_step place_step

  -- the variables that expressions name
  abbrev pub in_expressions : List Expr → List ℕ
  in_expressions es = flat_map in_expression es

  -- one layer of a statement
  abbrev pub named_step : Stmt-F (List ℕ) → List ℕ
  named_step (Stmt-F.Let name e) = in_expression e
  named_step (Stmt-F.Assign place e) = in_place place ++ in_expression e
  named_step (Stmt-F.If condition block other) =
      in_expression condition ++ (concat block ++ in_other other)
  named_step (Stmt-F.Repeat name count block) = concat block
  named_step (Stmt-F.Next name) = []
  named_step (Stmt-F.Halt at) = []
  named_step (Stmt-F.Give es at) = in_expressions es

  -- the variables that a statement names, those in its blocks among them
  abbrev pub named_in : Stmt → List ℕ
  named_in = fold-Stmt (List ℕ) named_step

  -- the variables that a block names
  abbrev pub named_in_block : List Stmt → List ℕ
  named_in_block block = concat (map named_in block)

-- rule 11: where a top half names a variable
abbrev pub top_reads_nv_places : Program → List ℕ
top_reads_nv_places program = flat_map (λ event. named_in_block program event.top) program.events
