-- What is found in the blocks of a statement.
use Rattle.std.specs.Prelude.{ℕ, List, [], Option, Some, None}
use Rattle.std.specs.List.{concat}

-- what is found in the block behind `else`, where there is one
abbrev pub in_other : Option (List (List ℕ)) → List ℕ
in_other None = []
in_other (Some places) = concat places
