-- The words that are told, as a rising list, each once.
use Rattle.std.specs.Prelude.{ℕ, zero, suc, ◌≡◌, ◌↔◌, true, Option, Some, None, List, [], ◌∷◌, ◌++◌, Contains, if◌then◌else◌}
use Rattle.std.specs.List.Sorted.{IsStrictlyIncreasing}
use Rattle.task_syntax.specs.Units.{Reached}
use Rattle.task_syntax.specs.Written.{is_shared}
use Rattle.serial_run.specs.Moments.{Marks}

-- the marked words among the first ones
abbrev pub marked_below : ℕ → Marks → List ℕ
marked_below zero marks = []
marked_below (suc count) marks = marked_below count marks
    ++ (if marks count then count ∷ [] else [])

-- the list rises and has exactly the marked words
pub record TellsWords (marks : Marks) (words : List ℕ) : Type 0 where
  pub rising : IsStrictlyIncreasing words
  pub exact : (word : ℕ) → Contains words word ↔ (marks word ≡ true)

-- the words that tasks share are told where there are so many tasks, and nothing is told elsewhere
abbrev pub TellsShared : Option Reached → Option (List ℕ) → Type 0
TellsShared None None = Unit {0}
TellsShared None (Some words) = ⊥
TellsShared (Some reached) None = ⊥
TellsShared (Some reached) (Some words) = TellsWords (is_shared reached.done) words
