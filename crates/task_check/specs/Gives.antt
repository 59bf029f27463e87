-- Messages from a top half to its bottom half: four words at most, and as many as the bottom half
-- takes.
use Rattle.std.specs.Prelude.{ℕ, ◌==◌, List, [], ◌∷◌, ◌++◌, map, flat_map, length, slice_get, if◌then◌else◌}
use Rattle.std.specs.List.{concat}
use Rattle.std.specs.Option.{option_to_list}
use Rattle.task_syntax.specs.declared.program.Program.{Program}
use Rattle.task_syntax.specs.declared.program.Event.{Event}
use Rattle.task_syntax.specs.declared.name.Name.{Name}
use Rattle.task_syntax.specs.declared.statement.Stmt.{Stmt}
use Rattle.task_syntax.specs.declared.statement.Stmt.TheOpen.{Stmt-F}
use Rattle.task_syntax.specs.declared.statement.Stmt.TheFolds.{fold-Stmt}
use Rattle.task_check.specs.Blocks.{in_other}

-- the place of the fifth name, where there are so many
abbrev pub fifth : List Name → List ℕ
fifth params = map (λ name. name.at) (option_to_list (slice_get params 4))

module _ (count : ℕ) where
  -- one layer of a statement
  abbrev pub misgiven_step : Stmt-F (List ℕ) → List ℕ
  misgiven_step (Stmt-F.Let name e) = []
  misgiven_step (Stmt-F.Assign place e) = []
  misgiven_step (Stmt-F.If condition block other) = concat block ++ in_other other
  misgiven_step (Stmt-F.Repeat name times block) = concat block
  misgiven_step (Stmt-F.Next name) = []
  misgiven_step (Stmt-F.Halt at) = []
  misgiven_step (Stmt-F.Give es at) = if length es == count then [] else at ∷ []

  -- each `give` of another count of words in a statement
  abbrev pub misgiven : Stmt → List ℕ
  misgiven = fold-Stmt (List ℕ) misgiven_step

  -- each `give` of another count of words in a block
  abbrev pub misgiven_in : List Stmt → List ℕ
  misgiven_in block = concat (map misgiven block)

-- the fifth word that an event takes, and each `give` of another count than it takes
abbrev pub give_shape : Event → List ℕ
give_shape event = fifth event.params ++ misgiven_in (length event.params) event.top

-- rule 12: where a message has more than four words, or another count than its bottom half takes
abbrev pub give_shape_places : Program → List ℕ
give_shape_places program = flat_map give_shape program.events
