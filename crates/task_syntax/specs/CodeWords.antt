-- The words of a body's code: an opcode for each instruction, and its operand words.
use Rattle.std.specs.Prelude.{ℕ, ◌+◌, List, map, sum, Option, Some, None}
use Rattle.task_syntax.specs.declared.expression.Expr.{Expr}
use Rattle.task_syntax.specs.declared.expression.Place.{Place}
use Rattle.task_syntax.specs.declared.expression.Expr.TheOpen.{Expr-F, Place-F}
use Rattle.task_syntax.specs.declared.expression.Expr.TheFolds.{fold-Expr, fold-Place}
use Rattle.task_syntax.specs.declared.statement.Stmt.{Stmt}
use Rattle.task_syntax.specs.declared.statement.Stmt.TheOpen.{Stmt-F}
use Rattle.task_syntax.specs.declared.statement.Stmt.TheFolds.{fold-Stmt}
use Rattle.task_syntax.specs.declared.body.Kind.{Kind}
use Rattle.task_syntax.specs.Cost.{sum_of, end_cost}

-- an operator is one word; what pushes has an operand word, and what reads an item has two
abbrev pub expression_words_step : Expr-F ℕ ℕ → ℕ
expression_words_step (Expr-F.Num number) = 2
expression_words_step (Expr-F.Get access) = access
expression_words_step (Expr-F.One op operand) = operand + 1
expression_words_step (Expr-F.Two op left right) = left + right + 1

-- the words of a place's index and of the instruction that reads or writes the place
abbrev pub access_words_step : Place-F ℕ ℕ → ℕ
access_words_step (Place-F.Plain name) = 2
access_words_step (Place-F.Item name index) = index + 3

-- the words of the code of an expression
abbrev pub expression_words : Expr → ℕ
expression_words = fold-Expr ℕ ℕ expression_words_step access_words_step

-- the words of the index of a place and of what reads or writes the place
abbrev pub access_words : Place → ℕ
access_words = fold-Place ℕ ℕ expression_words_step access_words_step

-- the words of expressions, one after another
abbrev pub expressions_words : List Expr → ℕ
expressions_words es = sum (map expression_words es)

-- a jump is two words
abbrev pub condition_words : ℕ → ℕ → Option ℕ → ℕ
condition_words condition block None = condition + 2 + block
condition_words condition block (Some other) = condition + 2 + block + 2 + other

-- one layer of a statement; a loop has 20 words round its block
abbrev pub statement_words_step : Stmt-F ℕ → ℕ
statement_words_step (Stmt-F.Let name e) = expression_words e + 2
statement_words_step (Stmt-F.Assign place e) = access_words place + expression_words e
statement_words_step (Stmt-F.If condition block other) =
    condition_words (expression_words condition) (sum block) (sum_of other)
statement_words_step (Stmt-F.Repeat name count block) = 20 + sum block
statement_words_step (Stmt-F.Next name) = 2
statement_words_step (Stmt-F.Halt at) = 1
statement_words_step (Stmt-F.Give es at) = expressions_words es + 2

-- the words of the code of a statement
abbrev pub statement_words : Stmt → ℕ
statement_words = fold-Stmt ℕ statement_words_step

-- the words of statements, one after another
abbrev pub statements_words : List Stmt → ℕ
statements_words stmts = sum (map statement_words stmts)

-- the words of a body; a bottom half has one for its end
abbrev pub body_words : List Stmt → Kind → ℕ
body_words stmts kind = statements_words stmts + end_cost kind
