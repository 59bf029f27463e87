-- How the least of places is looked for, in a list and in the statements of a block.
use Rattle.std.specs.Prelude.{ℕ, ◌≡◌, List, [], ◌++◌, flat_map, Option, Some, None}
use Rattle.task_syntax.specs.declared.statement.Stmt.{Stmt, out-Stmt}
use Rattle.task_syntax.specs.declared.statement.Stmt.TheOpen.{Stmt-F}
use Rattle.task_check.specs.Least.{least, lesser}

-- the least of the places of all elements, whatever places each has, where the least of its own is
-- answered for it
abbrev pub IsLeastAmong : {X : Type 0} → (X → Option ℕ → Type 0) → List X → Option ℕ → Type 0
IsLeastAmong {X = X} answers elements found =
    (places : X → List ℕ) → ((x : X) (at : Option ℕ) → answers x at → at ≡ least (places x)) →
    found ≡ least (flat_map places elements)

-- the statements of the block behind `else`, where there is one
abbrev pub otherwise : Option (List Stmt) → List Stmt
otherwise None = []
otherwise (Some block) = block

-- the statements right in the blocks of one
abbrev pub nested_step : Stmt-F Stmt → List Stmt
nested_step (Stmt-F.Let name e) = []
nested_step (Stmt-F.Assign place e) = []
nested_step (Stmt-F.If condition block other) = block ++ otherwise other
nested_step (Stmt-F.Repeat name count block) = block
nested_step (Stmt-F.Next name) = []
nested_step (Stmt-F.Halt at) = []
nested_step (Stmt-F.Give es at) = []

abbrev pub nested : Stmt → List Stmt
nested statement = nested_step (out-Stmt statement)

-- a statement without what stands in its blocks
abbrev pub bare_step : Stmt-F Stmt → Stmt-F (List ℕ)
bare_step (Stmt-F.Let name e) = Stmt-F.Let name e
bare_step (Stmt-F.Assign place e) = Stmt-F.Assign place e
bare_step (Stmt-F.If condition block other) = Stmt-F.If condition [] None
bare_step (Stmt-F.Repeat name count block) = Stmt-F.Repeat name count []
bare_step (Stmt-F.Next name) = Stmt-F.Next name
bare_step (Stmt-F.Halt at) = Stmt-F.Halt at
bare_step (Stmt-F.Give es at) = Stmt-F.Give es at

abbrev pub bare : Stmt → Stmt-F (List ℕ)
bare statement = bare_step (out-Stmt statement)

-- the least of the places of a block, whatever places statements have, where those of each one are
-- what is answered for it and those right in its blocks
abbrev pub IsLeastWithin : (Stmt → Option ℕ → Type 0) → List Stmt → Option ℕ → Type 0
IsLeastWithin answers block found =
    (places : Stmt → List ℕ)
    → ((s : Stmt) (at : Option ℕ) → answers s at →
    least (places s) ≡ lesser at (least (flat_map places (nested s))))
    → found ≡ least (flat_map places block)
