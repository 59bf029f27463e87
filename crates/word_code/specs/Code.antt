-- The code of a program: its bodies, tasks by number, then for each event its top half and its
-- bottom half. Their words stand one body after another.
use Rattle.std.specs.Prelude.{ℕ, ◌≡◌, ◌+◌, ◌-◌, ◌*◌, ◌<◌, ◌≤◌, List, [], ◌∷◌, ◌++◌, length, take, drop, slice_index_or}
use Rattle.std.specs.List.{concat}
use Rattle.task_syntax.specs.declared.body.BodyId.{BodyId}
use Rattle.task_syntax.specs.declared.body.BodyId.TheVariants.{Task, Top, Bottom}

-- the words of each body, and how many of them are tasks
pub record Bodies : Type 0 where
  pub tasks : ℕ
  pub bodies : List (List ℕ)

-- with one body more
abbrev pub with_body : Bodies → List ℕ → Bodies
with_body code words = record { tasks = code.tasks; bodies = code.bodies ++ words ∷ [] }

-- the number of a body
abbrev pub number_of : ℕ → BodyId → ℕ
number_of tasks (Task task) = task
number_of tasks (Top event) = tasks + 2 * event
number_of tasks (Bottom event) = tasks + 2 * event + 1

-- a task has its number among the tasks
abbrev pub IsInItsPart : ℕ → BodyId → Type 0
IsInItsPart tasks (Task task) = task < tasks
IsInItsPart tasks (Top event) = Unit {0}
IsInItsPart tasks (Bottom event) = Unit {0}

-- the body is one of the code's
pub record HasBody (code : Bodies) (body : BodyId) : Type 0 where
  pub part : IsInItsPart code.tasks body
  pub exists : number_of code.tasks body < length code.bodies

-- the words of a body
abbrev pub body_words : Bodies → BodyId → List ℕ
body_words code body = slice_index_or code.bodies (number_of code.tasks body) []

-- how many words stand before it
abbrev pub entry_of : Bodies → BodyId → ℕ
entry_of code body = length (concat (take (number_of code.tasks body) code.bodies))

-- the bodies among words, by the place behind each of them; the first begins at `from`
abbrev pub pieces : ℕ → List ℕ → List ℕ → List (List ℕ)
pieces from [] words = []
pieces from (end ∷ ends) words = take (end - from) words
    ∷ pieces end ends (drop (end - from) words)

-- these places rise from `from` to the last of them
abbrev pub RisesTo : ℕ → List ℕ → ℕ → Type 0
RisesTo from [] last = from ≡ last
RisesTo from (end ∷ ends) last = (from ≤ end) × RisesTo end ends last
