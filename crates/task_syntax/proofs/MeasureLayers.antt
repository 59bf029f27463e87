-- What each layer of a tree measures, in terms of its parts.
use Rattle.std.proofs.Common.{◌≡◌, ℕ}
use Rattle.std.specs.Prelude.{Option}
use Rattle.task_syntax.specs.declared.program.Program.{Program}
use Rattle.task_syntax.specs.declared.expression.Expr.{Expr}
use Rattle.task_syntax.specs.declared.expression.Place.{Place}
use Rattle.task_syntax.specs.declared.expression.Expr as E
use Rattle.task_syntax.specs.declared.expression.Place as P
use Rattle.task_syntax.specs.declared.statement.Stmt.{Stmt}
use Rattle.task_syntax.specs.declared.statement.Stmt as S
use Rattle.task_syntax.specs.Cost.{expression_cost, expression_cost_step, index_cost, index_cost_step, store_cost, store_step, statement_cost, statement_cost_step}
use Rattle.task_syntax.specs.CodeWords.{expression_words, expression_words_step, access_words, access_words_step, statement_words, statement_words_step}
use Rattle.task_syntax.specs.LocalCount.{declared_count, declared_step}
use Rattle.task_syntax.specs.Depth.{expression_depth, expression_depth_step, index_depth, index_depth_step, statement_depth, statement_depth_step}

pub expression_cost-layer : (x : E.Expr-F Expr Place) → expression_cost (E.roll-Expr x) ≡ expression_cost_step (E.map-Expr Expr Place ℕ ℕ expression_cost index_cost x)
expression_cost-layer x = E.fold-roll-Expr ℕ ℕ expression_cost_step index_cost_step x

pub index_cost-layer : (x : P.Place-F Expr Place) → index_cost (P.roll-Place x) ≡ index_cost_step (P.map-Place Expr Place ℕ ℕ expression_cost index_cost x)
index_cost-layer x = P.fold-roll-Place ℕ ℕ expression_cost_step index_cost_step x

pub store_cost-layer : (program : Program) (x : P.Place-F Expr Place) → store_cost program (P.roll-Place x) ≡ store_step program (P.map-Place Expr Place ℕ ℕ (E.fold-Expr ℕ ℕ expression_cost_step (store_step program)) (store_cost program) x)
store_cost-layer program x = P.fold-roll-Place ℕ ℕ expression_cost_step (store_step program) x

pub statement_cost-layer : (program : Program) (x : S.Stmt-F Stmt) → statement_cost program (S.roll-Stmt x) ≡ statement_cost_step program (S.map-Stmt Stmt ℕ (statement_cost program) x)
statement_cost-layer program x = S.fold-roll-Stmt ℕ (statement_cost_step program) x

pub expression_words-layer : (x : E.Expr-F Expr Place) → expression_words (E.roll-Expr x) ≡ expression_words_step (E.map-Expr Expr Place ℕ ℕ expression_words access_words x)
expression_words-layer x = E.fold-roll-Expr ℕ ℕ expression_words_step access_words_step x

pub access_words-layer : (x : P.Place-F Expr Place) → access_words (P.roll-Place x) ≡ access_words_step (P.map-Place Expr Place ℕ ℕ expression_words access_words x)
access_words-layer x = P.fold-roll-Place ℕ ℕ expression_words_step access_words_step x

pub statement_words-layer : (x : S.Stmt-F Stmt) → statement_words (S.roll-Stmt x) ≡ statement_words_step (S.map-Stmt Stmt ℕ statement_words x)
statement_words-layer x = S.fold-roll-Stmt ℕ statement_words_step x

pub declared_count-layer : (x : S.Stmt-F Stmt) → declared_count (S.roll-Stmt x) ≡ declared_step (S.map-Stmt Stmt ℕ declared_count x)
declared_count-layer x = S.fold-roll-Stmt ℕ declared_step x

pub expression_depth-layer : (x : E.Expr-F Expr Place) → expression_depth (E.roll-Expr x) ≡ expression_depth_step (E.map-Expr Expr Place ℕ (Option ℕ) expression_depth index_depth x)
expression_depth-layer x = E.fold-roll-Expr ℕ (Option ℕ) expression_depth_step index_depth_step x

pub index_depth-layer : (x : P.Place-F Expr Place) → index_depth (P.roll-Place x) ≡ index_depth_step (P.map-Place Expr Place ℕ (Option ℕ) expression_depth index_depth x)
index_depth-layer x = P.fold-roll-Place ℕ (Option ℕ) expression_depth_step index_depth_step x

pub statement_depth-layer : (x : S.Stmt-F Stmt) → statement_depth (S.roll-Stmt x) ≡ statement_depth_step (S.map-Stmt Stmt ℕ statement_depth x)
statement_depth-layer x = S.fold-roll-Stmt ℕ statement_depth_step x

pub ruleset measure_layers = (expression_cost-layer, index_cost-layer, store_cost-layer, statement_cost-layer, expression_words-layer, access_words-layer, statement_words-layer, declared_count-layer, expression_depth-layer, index_depth-layer, statement_depth-layer)
