-- The code of a program as far as it has been compiled.
use Rattle.std.specs.Prelude.{ℕ, ◌++◌, List}
use Rattle.word_code.specs.Code.{Bodies}

-- with the words of several bodies more
abbrev pub with_bodies : List (List ℕ) → Bodies → Bodies
with_bodies more code = record { tasks = code.tasks; bodies = code.bodies ++ more }
