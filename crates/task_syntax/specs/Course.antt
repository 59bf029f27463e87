-- The course of a body: what it does next, on whatever memory it runs. It ends with an answer, or
-- it reads a variable word and goes on by what stands there, or it writes one and goes on. What it
-- does on a store follows from its course.
use Rattle.std.specs.Prelude.{ℕ, ◌==◌, List, [], ◌∷◌, if◌then◌else◌}
use Rattle.coati_word.specs.declared.reading.Reading.{Reading}

-- a course that ends with an answer of this type
pub data Course (Answer : Type 0) : Type 0 where
  ends : Answer → Course Answer
  reads : (word : ℕ) → (ℕ → Course Answer) → Course Answer
  writes : (word value : ℕ) → Course Answer → Course Answer

-- a course, and then the one that its answer leads to
abbrev pub chain : {A B : Type 0} → Course A → (A → Course B) → Course B
chain (Course.ends result) next = next result
chain (Course.reads word go_on) next = Course.reads word (λ value. chain (go_on value) next)
chain (Course.writes word value rest) next = Course.writes word value (chain rest next)

-- a store: what each variable word holds
abbrev pub Store : Type 0
Store = ℕ → ℕ

-- the store with one word changed
abbrev pub put : ℕ → ℕ → Store → Store
put word value store = λ other. if other == word then value else store other

-- one access to a variable word, with its value
pub data Access : Type 0 where
  read : (word value : ℕ) → Access
  wrote : (word value : ℕ) → Access

-- the accesses of a course on a store, in their order
abbrev pub accesses : {A : Type 0} → Course A → Store → List Access
accesses (Course.ends result) store = []
accesses (Course.reads word go_on) store = Access.read word (store word)
    ∷ accesses (go_on (store word)) store
accesses (Course.writes word value rest) store =
    Access.wrote word value ∷ accesses rest (put word value store)

-- what a course ends with on a store
abbrev pub answer : {A : Type 0} → Course A → Store → A
answer (Course.ends result) store = result
answer (Course.reads word go_on) store = answer (go_on (store word)) store
answer (Course.writes word value rest) store = answer rest (put word value store)

-- the store after accesses
abbrev pub after : List Access → Store → Store
after [] store = store
after (Access.read word value ∷ more) store = after more store
after (Access.wrote word value ∷ more) store = after more (put word value store)

-- the readings among accesses
abbrev pub readings : List Access → List Reading
readings [] = []
readings (Access.read word value ∷ more) = record { word = word; value = value } ∷ readings more
readings (Access.wrote word value ∷ more) = readings more

-- the words written among accesses, in the order of the writes
abbrev pub written_words : List Access → List ℕ
written_words [] = []
written_words (Access.read word value ∷ more) = written_words more
written_words (Access.wrote word value ∷ more) = word ∷ written_words more
