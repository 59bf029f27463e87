-- The names in scope. All names of a program share one space.
use Rattle.std.specs.Prelude.{ℕ, List, [], ◌∷◌, ◌++◌, Option, is_some, if◌then◌else◌}
use Rattle.std.specs.Map.{lookup}
use Rattle.std.specs.Str.{bytes_eq}
use Rattle.task_check.specs.declared.meaning.Meaning.{Meaning}

-- names, each with what it stands for, in the order of declaration
abbrev pub Scope : Type 0
Scope = List (List ℕ × Meaning)

-- what a name stands for, where it is in scope
abbrev pub meaning_of : Scope → List ℕ → Option Meaning
meaning_of scope name = lookup (bytes_eq name) scope

-- the scope with a name more, unless it has that name already
abbrev pub with_name : Scope → List ℕ → Meaning → Scope
with_name scope name meaning = if is_some (meaning_of scope name) then scope
    else scope ++ (name, meaning) ∷ []
