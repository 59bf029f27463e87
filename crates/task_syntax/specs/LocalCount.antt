-- The locals of a body: each `let` and each loop declares one, and each has a slot of its own.
use Rattle.std.specs.Prelude.{ℕ, ◌+◌, List, map, sum, Option, Some, None}
use Rattle.task_syntax.specs.declared.statement.Stmt.{Stmt}
use Rattle.task_syntax.specs.declared.statement.Stmt.TheOpen.{Stmt-F}
use Rattle.task_syntax.specs.declared.statement.Stmt.TheFolds.{fold-Stmt}

-- those of the block behind `else`, where there is one
abbrev pub declared_otherwise : Option (List ℕ) → ℕ
declared_otherwise None = 0
declared_otherwise (Some counts) = sum counts

-- one layer of a statement
abbrev pub declared_step : Stmt-F ℕ → ℕ
declared_step (Stmt-F.Let name e) = 1
declared_step (Stmt-F.Assign place e) = 0
declared_step (Stmt-F.If condition block other) = sum block + declared_otherwise other
declared_step (Stmt-F.Repeat name count block) = 1 + sum block
declared_step (Stmt-F.Next name) = 0
declared_step (Stmt-F.Halt at) = 0
declared_step (Stmt-F.Give es at) = 0

-- how many locals a statement declares, with those of its blocks
abbrev pub declared_count : Stmt → ℕ
declared_count = fold-Stmt ℕ declared_step

-- how many locals statements declare
abbrev pub declared_counts : List Stmt → ℕ
declared_counts stmts = sum (map declared_count stmts)

-- the locals of a body, its parameters among them
abbrev pub local_count : List Stmt → ℕ → ℕ
local_count stmts params = params + declared_counts stmts
