-- What accesses leave written. A word that is written among them has a last value there: a log of
-- the accesses holds it with that value, and holds no other word. A word is shared that is read
-- before any of them writes it.
use Rattle.std.specs.Prelude.{ℕ, ◌==◌, Bool, true, false, List, [], ◌∷◌, Option, Some, None, if◌then◌else◌}
use Rattle.std.specs.List.{list_any}
use Rattle.std.specs.Option.{option_or}
use Rattle.task_syntax.specs.Course.{Access, written_words}

-- the last value that accesses write to a word; none where they write none
abbrev pub last_written : List Access → ℕ → Option ℕ
last_written [] word = None
last_written (Access.read other value ∷ more) word = last_written more word
last_written (Access.wrote other value ∷ more) word =
    option_or (last_written more word) (if other == word then Some value else None)

-- a word is written among accesses
abbrev pub is_written : List Access → ℕ → Bool
is_written done word = list_any (λ other. other == word) (written_words done)

-- a word is read among accesses when none of them has written it before
abbrev pub is_shared : List Access → ℕ → Bool
is_shared [] word = false
is_shared (Access.read other value ∷ more) word = if other == word then true
    else is_shared more word
is_shared (Access.wrote other value ∷ more) word = if other == word then false
    else is_shared more word
