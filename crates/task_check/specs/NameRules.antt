-- The rules of names: each is declared once, in scope where it is used, and used as what it is.
use Rattle.std.specs.Prelude.{ℕ, Bool, true, false, ◌&&◌, not, List, map, filter, Option, Some, is_some, is_none}
use Rattle.task_syntax.specs.declared.program.Program.{Program}
use Rattle.task_check.specs.declared.meaning.Meaning.{Meaning}
use Rattle.task_check.specs.declared.meaning.Meaning.TheVariants as meaning
use Rattle.task_check.specs.declared.role.Role.{Role}
use Rattle.task_check.specs.declared.role.Role.TheVariants as role
use Rattle.task_check.specs.Mentions.{Mention, mentions}

abbrev pub is_declared : Role → Bool
is_declared role.Declared = true
is_declared _ = false

-- a scalar and a local have no items, an array has, and a `next` goes to a task
abbrev pub suits : Role → Option Meaning → Bool
suits role.Declared meaning = true
suits role.Plain (Some meaning.Scalar) = true
suits role.Plain (Some meaning.Local) = true
suits role.Item (Some meaning.Array) = true
suits role.Next (Some meaning.Task) = true
suits _ _ = false

-- a declared name that is in scope already
abbrev pub is_twice_named : Role → Option Meaning → Bool
is_twice_named role meaning = is_declared role && is_some meaning

-- a used name that isn't in scope
abbrev pub is_unknown : Role → Option Meaning → Bool
is_unknown role meaning = not (is_declared role) && is_none meaning

-- a name that is used as what it isn't
abbrev pub is_wrong_kind : Role → Option Meaning → Bool
is_wrong_kind role meaning = not (suits role meaning)

-- the places of those that a test finds
abbrev pub places_where : (Role → Option Meaning → Bool) → List Mention → List ℕ
places_where test among = map (λ (m : Mention). m.name.at)
    (filter (λ (m : Mention). test m.role m.meaning) among)

-- rule 1
abbrev pub twice_named_places : Program → List ℕ
twice_named_places program = places_where is_twice_named (mentions program)

-- rule 2
abbrev pub unknown_places : Program → List ℕ
unknown_places program = places_where is_unknown (mentions program)

-- rule 3
abbrev pub wrong_kind_places : Program → List ℕ
wrong_kind_places program = places_where is_wrong_kind (mentions program)
