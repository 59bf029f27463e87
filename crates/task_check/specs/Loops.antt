-- Assignments to the names of loops. A loop alone counts its turns.
use Rattle.std.specs.Prelude.{ℕ, List, [], ◌∷◌, ◌++◌, map, flat_map, Bool, Option, Some, None, if◌then◌else◌}
use Rattle.std.specs.List.{list_any}
use Rattle.std.specs.Str.{bytes_eq}
use Rattle.task_syntax.specs.declared.program.Program.{Program}
use Rattle.task_syntax.specs.declared.name.Name.{Name}
use Rattle.task_syntax.specs.declared.expression.Place.{Place}
use Rattle.task_syntax.specs.declared.expression.Expr.TheOpen.{Expr-F, Place-F}
use Rattle.task_syntax.specs.declared.expression.Expr.TheFolds.{fold-Place}
use Rattle.task_syntax.specs.declared.statement.Stmt.{Stmt}
use Rattle.task_syntax.specs.declared.statement.Stmt.TheOpen.{Stmt-F}
use Rattle.task_syntax.specs.declared.statement.Stmt.TheFolds.{fold-Stmt}
use Rattle.task_check.specs.Bodies.{BodyRead, bodies}

-- one layer of a place: an item isn't a name by itself
abbrev pub plain_step : Place-F (List Name) (List Name) → List Name
plain_step (Place-F.Plain name) = name ∷ []
plain_step (Place-F.Item name index) = []

-- nothing is asked of an index
abbrev pub nothing_step : Expr-F (List Name) (List Name) → List Name
nothing_step e = []

-- the name that a place is, where it is no item
abbrev pub plain_name : Place → List Name
plain_name = fold-Place (List Name) (List Name) nothing_step plain_step

-- the name is one of these
abbrev pub is_among : List (List ℕ) → List ℕ → Bool
is_among names text = list_any (bytes_eq text) names

-- the place of a name that is one of these
abbrev pub place_among : List (List ℕ) → Name → List ℕ
place_among names name = if is_among names name.text then name.at ∷ [] else []

-- what is found in a loop of each of these names
abbrev pub Within : Type 0
Within = List (List ℕ) → List ℕ

-- what is found in the statements of a block
abbrev pub in_block : List Within → Within
in_block block loops = flat_map (λ found. found loops) block

-- what is found in the block behind `else`, where there is one
abbrev pub in_other : Option (List Within) → Within
in_other None loops = []
in_other (Some block) loops = in_block block loops

-- one layer of a statement within these loops
abbrev pub assigned_step : Stmt-F Within → Within
assigned_step (Stmt-F.Let name e) loops = []
assigned_step (Stmt-F.Assign place e) loops = flat_map (place_among loops) (plain_name place)
assigned_step (Stmt-F.If condition block other) loops =
    in_block block loops ++ in_other other loops
assigned_step (Stmt-F.Repeat name count block) loops = in_block block (name.text ∷ loops)
assigned_step (Stmt-F.Next name) loops = []
assigned_step (Stmt-F.Halt at) loops = []
assigned_step (Stmt-F.Give es at) loops = []

-- the names of loops to which a statement within these loops assigns
abbrev pub assigned_in : Stmt → Within
assigned_in = fold-Stmt Within assigned_step

-- the same of a block
abbrev pub assigned_in_block : List Stmt → Within
assigned_in_block block = in_block (map assigned_in block)

-- the assignments of a body to the names of loops round them
abbrev pub loop_assigned : BodyRead → List ℕ
loop_assigned body = assigned_in_block body.statements []

-- rule 13: where a body assigns to the name of a loop that stands round the assignment
abbrev pub loop_assigned_places : Program → List ℕ
loop_assigned_places program = flat_map loop_assigned (bodies program)
