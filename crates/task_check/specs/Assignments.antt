-- Assignments to one name, and those in a loop to its own.
use Rattle.std.specs.Prelude.{ℕ, List, [], ◌∷◌, ◌++◌, map, flat_map}
use Rattle.std.specs.List.{concat}
use Rattle.task_syntax.specs.declared.statement.Stmt.{Stmt, out-Stmt}
use Rattle.task_syntax.specs.declared.statement.Stmt.TheOpen.{Stmt-F}
use Rattle.task_syntax.specs.declared.statement.Stmt.TheFolds.{fold-Stmt}
use Rattle.task_check.specs.Blocks.{in_other}
use Rattle.task_check.specs.Loops.{place_among, plain_name}

-- an assignment to a name
abbrev pub assigns_step : List ℕ → Stmt-F (List ℕ) → List ℕ
assigns_step text (Stmt-F.Let name e) = []
assigns_step text (Stmt-F.Assign place e) = flat_map (place_among (text ∷ [])) (plain_name place)
assigns_step text (Stmt-F.If condition block other) = concat block ++ in_other other
assigns_step text (Stmt-F.Repeat name count block) = concat block
assigns_step text (Stmt-F.Next name) = []
assigns_step text (Stmt-F.Halt at) = []
assigns_step text (Stmt-F.Give es at) = []

-- the assignments to a name in a statement, those in its blocks among them
abbrev pub assigns_to : List ℕ → Stmt → List ℕ
assigns_to text = fold-Stmt (List ℕ) (assigns_step text)

-- the same of a block
abbrev pub block_assigns_to : List ℕ → List Stmt → List ℕ
block_assigns_to text block = concat (map (assigns_to text) block)

-- the assignments in a loop to its own name
abbrev pub assigned_by_loop_step : Stmt-F Stmt → List ℕ
assigned_by_loop_step (Stmt-F.Let name e) = []
assigned_by_loop_step (Stmt-F.Assign place e) = []
assigned_by_loop_step (Stmt-F.If condition block other) = []
assigned_by_loop_step (Stmt-F.Repeat name count block) = block_assigns_to name.text block
assigned_by_loop_step (Stmt-F.Next name) = []
assigned_by_loop_step (Stmt-F.Halt at) = []
assigned_by_loop_step (Stmt-F.Give es at) = []

abbrev pub assigned_by_loop : Stmt → List ℕ
assigned_by_loop statement = assigned_by_loop_step (out-Stmt statement)
