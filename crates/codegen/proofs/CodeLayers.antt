-- The code of each layer of a tree, in terms of its parts.
use Rattle.std.proofs.Common.{◌≡◌, List, ap}
use Rattle.task_syntax.specs.declared.program.Program.{Program}
use Rattle.task_syntax.specs.declared.expression.Expr.{Expr}
use Rattle.task_syntax.specs.declared.expression.Place.{Place}
use Rattle.task_syntax.specs.declared.expression.Expr as E
use Rattle.task_syntax.specs.declared.expression.Place as P
use Rattle.task_syntax.specs.declared.statement.Stmt.{Stmt}
use Rattle.task_syntax.specs.declared.statement.Stmt as S
use Rattle.word_code.specs.declared.instruction.Instr.{Instr}
use Rattle.codegen.specs.Scope.{Local, Scope}
use Rattle.codegen.specs.Templates.{PlaceCode, Template, expression_code, expression_code_step, place_code, place_code_step, statement_code, statement_code_step}

module _ (program : Program) where
  pub expression_code-layer : (x : E.Expr-F Expr Place) (locals : List Local) →
      expression_code program (E.roll-Expr x) locals
      ≡ expression_code_step program (E.map-Expr Expr Place (List Local → List Instr) (List Local → PlaceCode) (expression_code program) (place_code program) x) locals
  expression_code-layer x locals =
      ap (λ (f : List Local → List Instr). f locals) (E.fold-roll-Expr (List Local → List Instr) (List Local → PlaceCode) (expression_code_step program) (place_code_step program) x)

  pub place_code-layer : (x : P.Place-F Expr Place) (locals : List Local) →
      place_code program (P.roll-Place x) locals
      ≡ place_code_step program (P.map-Place Expr Place (List Local → List Instr) (List Local → PlaceCode) (expression_code program) (place_code program) x) locals
  place_code-layer x locals =
      ap (λ (f : List Local → PlaceCode). f locals) (P.fold-roll-Place (List Local → List Instr) (List Local → PlaceCode) (expression_code_step program) (place_code_step program) x)

  pub statement_code-layer : (x : S.Stmt-F Stmt) (scope : Scope) →
      statement_code program (S.roll-Stmt x) scope ≡ statement_code_step program (S.map-Stmt Stmt Template (statement_code program) x) scope
  statement_code-layer x scope = ap (λ (f : Template). f scope) (S.fold-roll-Stmt Template (statement_code_step program) x)

pub ruleset code_layers = (expression_code-layer, place_code-layer, statement_code-layer)
