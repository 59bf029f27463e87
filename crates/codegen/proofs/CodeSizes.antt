-- Numbers of words that the code of each part has, wherever it stands.
use Rattle.std.proofs.Common.{◌≡◌, ℕ, ◌≤◌, ◌<◌, List, [], ◌∷◌, length, map, arith}
use Rattle.task_syntax.specs.declared.program.Program.{Program}
use Rattle.task_syntax.specs.declared.expression.Expr.{Expr}
use Rattle.task_syntax.specs.declared.expression.Place.{Place}
use Rattle.task_syntax.specs.declared.expression.Expr as E
use Rattle.task_syntax.specs.declared.expression.Place as P
use Rattle.task_syntax.specs.declared.statement.Stmt.{Stmt}
use Rattle.task_syntax.specs.CodeWords.{access_words, expression_words, expressions_words, statement_words, statements_words}
use Rattle.codegen.specs.Code.{size}
use Rattle.codegen.specs.Scope.{Local, Scope}
use Rattle.codegen.specs.Templates.{expression_code, statement_code, statements_code}
use Rattle.codegen.proofs.Fitting.{sum-cons}
use Rattle.codegen.proofs.Sizes.{expression_size, statement_size, statements_size}
use Rattle.task_syntax.proofs.MeasureLayers.{access_words-layer, expression_words-layer}
use Rattle.task_syntax.proofs.Trees.{ExpressionCases, every_expression}

pub size-expression_code : (program : Program) (e : Expr) (locals : List Local) → size (expression_code program e locals) ≡ expression_words e
size-expression_code program e locals = expression_size program e locals

pub size-statement_code : (program : Program) (s : Stmt) (scope : Scope) (at : ℕ) → size ((statement_code program s scope).code at) ≡ statement_words s
size-statement_code program s scope at = statement_size program s scope at

pub size-statements_code : (program : Program) (block : List Stmt) (scope : Scope) (at : ℕ) → size ((statements_code program block scope).code at) ≡ statements_words block
size-statements_code program block scope at = statements_size program block scope at

-- an expression has a word at least
record IsLong (e : Expr) : Type 0 where
  by : 0 < expression_words e

record IsLongPlace (place : Place) : Type 0 where
  by : 0 < access_words place

long_cases : ExpressionCases IsLong IsLongPlace
long_cases = record {
  num = λ value. record { by = rw (expression_words-layer (E.Expr-F.Num value)) (omega arith) };
  get = λ place long. record { by = rw (expression_words-layer (E.Expr-F.Get place)) long.by };
  one = λ op operand long. record { by = rw (expression_words-layer (E.Expr-F.One op operand)) (omega arith) };
  two = λ op left right one other. record { by = rw (expression_words-layer (E.Expr-F.Two op left right)) (omega arith) };
  plain = λ name. record { by = rw (access_words-layer (P.Place-F.Plain name)) (omega arith) };
  item = λ name index long. record { by = rw (access_words-layer (P.Place-F.Item name index)) (omega arith) };
}

-- there are no more expressions than words of them
pub count-expressions : (es : List Expr) → length es ≤ expressions_words es
count-expressions [] = omega arith
count-expressions (e ∷ es) =
    let long = (every_expression IsLong IsLongPlace long_cases e).by in
    omega (arith, long, count-expressions es, sum-cons (expression_words e) (map expression_words es))

pub ruleset few_expressions = (count-expressions)
