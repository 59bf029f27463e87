-- Endings of bodies. `next`, `halt` and `give` are endings. They stand last in a task or a top
-- half, and nowhere else.
use Rattle.std.specs.Prelude.{ℕ, List, [], ◌∷◌, ◌++◌, map, flat_map, ◌&&◌, Bool, true, false, Option, Some, None, if◌then◌else◌}
use Rattle.task_syntax.specs.declared.program.Program.{Program}
use Rattle.task_syntax.specs.declared.statement.Stmt.{Stmt}
use Rattle.task_syntax.specs.declared.statement.Stmt.TheOpen.{Stmt-F}
use Rattle.task_syntax.specs.declared.statement.Stmt.TheFolds.{fold-Stmt}
use Rattle.task_syntax.specs.declared.body.Kind.{Kind}
use Rattle.task_syntax.specs.declared.body.Kind.TheVariants.{Task, Top, Bottom}
use Rattle.task_check.specs.Bodies.{BodyRead, bodies}
use Rattle.task_check.specs.Least.{unless}

-- nothing follows
abbrev pub is_last : {A : Type 0} → List A → Bool
is_last [] = true
is_last (next ∷ more) = false

-- a block ends where its last statement does
abbrev pub last_ends : List Bool → Bool
last_ends [] = false
last_ends (first ∷ more) = if is_last more then first else last_ends more

-- both blocks of an `if` end
abbrev pub both_end : List Bool → Option (List Bool) → Bool
both_end block None = false
both_end block (Some other) = last_ends block && last_ends other

-- one layer of a statement
abbrev pub ends_step : Stmt-F Bool → Bool
ends_step (Stmt-F.Let name e) = false
ends_step (Stmt-F.Assign place e) = false
ends_step (Stmt-F.If condition block other) = both_end block other
ends_step (Stmt-F.Repeat name count block) = false
ends_step (Stmt-F.Next name) = true
ends_step (Stmt-F.Halt at) = true
ends_step (Stmt-F.Give es at) = true

-- the statement is an ending, or an `if` whose two blocks end
abbrev pub statement_ends : Stmt → Bool
statement_ends = fold-Stmt Bool ends_step

-- the block ends
abbrev pub block_ends : List Stmt → Bool
block_ends block = last_ends (map statement_ends block)

-- a bottom half runs to its end
abbrev pub has_ending : Kind → List Stmt → Bool
has_ending Task body = block_ends body
has_ending Top body = block_ends body
has_ending Bottom body = true

-- the place of the body's name, where it lacks an ending
abbrev pub no_ending : BodyRead → List ℕ
no_ending body = if has_ending body.kind body.statements then [] else body.at ∷ []

-- rule 8: where the body of a task or a top half doesn't end
abbrev pub no_ending_places : Program → List ℕ
no_ending_places program = flat_map no_ending (bodies program)

-- `next` and `halt` end tasks
abbrev pub is_task : Kind → Bool
is_task Task = true
is_task Top = false
is_task Bottom = false

-- `give` ends top halves
abbrev pub is_top : Kind → Bool
is_top Task = false
is_top Top = true
is_top Bottom = false

-- the places in a block, whose last statement is last in the body where the block is
abbrev pub in_block : List (Bool → List ℕ) → Bool → List ℕ
in_block [] last = []
in_block (first ∷ more) last = first (last && is_last more) ++ in_block more last

-- those in the block behind `else`, where there is one
abbrev pub in_other : Option (List (Bool → List ℕ)) → Bool → List ℕ
in_other None last = []
in_other (Some block) last = in_block block last

module _ (kind : Kind) where
  -- one layer of a statement that is last in its body, or isn't; nothing in a loop is last
  abbrev pub early_step : Stmt-F (Bool → List ℕ) → Bool → List ℕ
  early_step (Stmt-F.Let name e) last = []
  early_step (Stmt-F.Assign place e) last = []
  early_step (Stmt-F.If condition block other) last = in_block block last ++ in_other other last
  early_step (Stmt-F.Repeat name count block) last = in_block block false
  early_step (Stmt-F.Next name) last = unless (last && is_task kind) name.at
  early_step (Stmt-F.Halt at) last = unless (last && is_task kind) at
  early_step (Stmt-F.Give es at) last = unless (last && is_top kind) at

  -- the endings in a statement that may not stand there
  abbrev pub early_in : Stmt → Bool → List ℕ
  early_in = fold-Stmt (Bool → List ℕ) early_step

  -- the endings in a block that may not stand there
  abbrev pub early_in_block : List Stmt → Bool → List ℕ
  early_in_block block last = in_block (map early_in block) last

-- the endings of a body that may not stand where they do
abbrev pub early_endings : BodyRead → List ℕ
early_endings body = early_in_block body.kind body.statements true

-- rule 9: where an ending isn't last in its body, or is none for a body of its kind
abbrev pub early_ending_places : Program → List ℕ
early_ending_places program = flat_map early_endings (bodies program)
