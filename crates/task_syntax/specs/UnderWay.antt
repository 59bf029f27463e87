-- A course under way on a store: the accesses that it has made so far, and what is left of it.
use Rattle.std.specs.Prelude.{ℕ, List, [], ◌∷◌}
use Rattle.task_syntax.specs.Course.{Course, Store, put, Access}

-- on a base store the course has made these accesses, and this is left of it
pub data HasReached {A : Type 0} : Course A → Store → List Access → Course A → Type 0 where
  starts : (course : Course A) (base : Store) → HasReached course base [] course
  reads : (word : ℕ) (go_on : ℕ → Course A) (base : Store) (more : List Access) (rest : Course A) →
      HasReached (go_on (base word)) base more rest →
      HasReached (Course.reads word go_on) base (Access.read word (base word) ∷ more) rest
  writes : (word value : ℕ) (next : Course A) (base : Store) (more : List Access)
      (rest : Course A) →
      HasReached next (put word value base) more rest →
      HasReached (Course.writes word value next) base (Access.wrote word value ∷ more) rest
