-- How far a run has come: the store there, and what is kept of the accesses before. Notes are the
-- readings, or else which words were read before they were written, and which were written.
use Rattle.std.specs.Prelude.{ℕ, ◌==◌, Bool, true, false, List, [], ◌∷◌, ◌++◌, length, slice_index, if◌then◌else◌, ◌≡◌}
use Rattle.coati_word.specs.declared.reading.Reading.{Reading}
use Rattle.task_syntax.specs.Course.{Course, Store, put, Access, accesses, answer}

-- which words are marked
abbrev pub Marks : Type 0
Marks = ℕ → Bool

-- no word is marked
abbrev pub no_marks : Marks
no_marks word = false

-- the marks with one more
abbrev pub marked : ℕ → Marks → Marks
marked word marks = λ other. if word == other then true else marks other

-- what is kept of accesses
pub data Notes : Type 0 where
  all_readings : List Reading → Notes
  touched : (shared written : Marks) → Notes

-- what is kept with an access more
abbrev pub noted : Access → Notes → Notes
noted (Access.read word value) (Notes.all_readings before) =
    Notes.all_readings (before ++ record { word = word; value = value } ∷ [])
noted (Access.wrote word value) (Notes.all_readings before) = Notes.all_readings before
noted (Access.read word value) (Notes.touched shared written) =
    Notes.touched (if written word then shared else marked word shared) written
noted (Access.wrote word value) (Notes.touched shared written) =
    Notes.touched shared (marked word written)

-- the readings that are kept
abbrev pub readings_in : Notes → List Reading
readings_in (Notes.all_readings before) = before
readings_in (Notes.touched shared written) = []

-- the marks that are kept
abbrev pub shared_in : Notes → Marks
shared_in (Notes.all_readings before) = no_marks
shared_in (Notes.touched shared written) = shared

abbrev pub written_in : Notes → Marks
written_in (Notes.all_readings before) = no_marks
written_in (Notes.touched shared written) = written

-- a moment of a run, with how many words the store has
pub record Moment : Type 0 where
  pub count : ℕ
  pub store : Store
  pub kept : Notes

-- words and readings in which a run has ended
pub record Leaves (m : Moment) (words : List ℕ) (readings : List Reading) : Type 0 where
  pub count : length words ≡ m.count
  pub store : slice_index words ≡ m.store
  pub readings_kept : readings ≡ readings_in m.kept

-- the moment at which a run begins whose readings are kept
abbrev pub reading_from : List ℕ → Moment
reading_from words = record {
  count = length words;
  store = slice_index words;
  kept = Notes.all_readings [];
}

-- the moment at which a run begins of which it is kept which words are touched
abbrev pub touching_from : List ℕ → Moment
touching_from words = record {
  count = length words;
  store = slice_index words;
  kept = Notes.touched no_marks no_marks;
}

-- the moment behind an access
abbrev pub behind_access : Access → Moment → Moment
behind_access (Access.read word value) m = record {
  count = m.count;
  store = m.store;
  kept = noted (Access.read word value) m.kept;
}
behind_access (Access.wrote word value) m = record {
  count = m.count;
  store = put word value m.store;
  kept = noted (Access.wrote word value) m.kept;
}

-- the moment behind accesses, one after another
abbrev pub behind_all : List Access → Moment → Moment
behind_all [] m = m
behind_all (access ∷ more) m = behind_all more (behind_access access m)

-- the moment behind a course
unfoldable pub behind : {A : Type 0} → Course A → Moment → Moment
behind course m = behind_all (accesses course m.store) m

-- what a course ends with that runs from a moment on
unfoldable pub end_of : {A : Type 0} → Course A → Moment → A
end_of course m = answer course m.store
