-- What is kept behind accesses.
use Rattle.std.proofs.Common.{◌≡◌, ◌==◌, ℕ, List, [], ◌∷◌, ◌++◌, refl, sym, ap, ◌∙◌, arith, inl, inr, Bool, true, false, append_assoc, append-nil}
use Rattle.std.specs.Prelude.{◌&&◌, ◌||◌, not, if◌then◌else◌}
use Rattle.std.proofs.lemmas.Bool.{cases_Bool}
use Rattle.std.proofs.lemmas.Bool.Decides.{nat_tests}
use Rattle.coati_word.specs.declared.reading.Reading.{Reading}
use Rattle.task_syntax.specs.Course.{Access, readings}
use Rattle.task_syntax.specs.Written.{is_shared, is_written}
use Rattle.serial_run.specs.Moments.{Notes, Marks, Moment, marked, noted, no_marks, behind_access, behind_all}

-- accesses noted, one after another
abbrev pub all_noted : List Access → Notes → Notes
all_noted [] kept = kept
all_noted (access ∷ more) kept = all_noted more (noted access kept)

pub kept-behind_all : (done : List Access) (m : Moment) → (behind_all done m).kept ≡ all_noted done m.kept
kept-behind_all [] m = refl
kept-behind_all (Access.read word value ∷ more) m = kept-behind_all more (behind_access (Access.read word value) m)
kept-behind_all (Access.wrote word value ∷ more) m = kept-behind_all more (behind_access (Access.wrote word value) m)

pub noted-readings : (done : List Access) (before : List Reading) → all_noted done (Notes.all_readings before) ≡ Notes.all_readings (before ++ readings done)
noted-readings [] before = rw append-nil refl
noted-readings (Access.read word value ∷ more) before = noted-readings more (before ++ record { word = word; value = value } ∷ []) ∙ rw append_assoc refl
noted-readings (Access.wrote word value ∷ more) before = noted-readings more before

-- what is marked before, or is shared where nothing has written it before
abbrev pub shared_behind : List Access → Marks → Marks → Marks
shared_behind done shared written word = shared word || (not (written word) && is_shared done word)

abbrev pub written_behind : List Access → Marks → Marks
written_behind done written word = written word || is_written done word

either-false : (a : Bool) → (a || false) ≡ a
either-false true = refl
either-false false = refl

either-true : (a : Bool) → (a || true) ≡ true
either-true true = refl
either-true false = refl

itself : (a : ℕ) → (a == a) ≡ true
itself a = grind (arith, nat_tests)

same_word : (a b : ℕ) → (a == b) ≡ true → a ≡ b
same_word a b same = grind (arith, nat_tests)

both-false : (a : Bool) → (a && false) ≡ false
both-false true = refl
both-false false = refl

shared-read : (other value : ℕ) (more : List Access) (shared written : Marks) (word : ℕ) →
    shared_behind more (if written other then shared else marked other shared) written word ≡ shared_behind (Access.read other value ∷ more) shared written word
shared-read other value more shared written word =
    elim (cases_Bool (other == word)) [
      | inl same ↦ let here : other ≡ word = same_word other word same in
          elim (cases_Bool (written word)) [
            | inl before ↦ rw (here, before) refl
            | inr fresh ↦ rw (here, fresh, itself word, either-true (shared word)) refl
          ]
      | inr apart ↦ elim (cases_Bool (written other)) [
        | inl before ↦ rw (before, apart) refl
        | inr fresh ↦ rw (fresh, apart) refl
      ]
    ]

shared-wrote : (other value : ℕ) (more : List Access) (shared written : Marks) (word : ℕ) →
    shared_behind more shared (marked other written) word ≡ shared_behind (Access.wrote other value ∷ more) shared written word
shared-wrote other value more shared written word =
    elim (cases_Bool (other == word)) [
      | inl same ↦ rw (same, both-false (not (written word))) refl
      | inr apart ↦ rw apart refl
    ]

written-wrote : (other value : ℕ) (more : List Access) (written : Marks) (word : ℕ) →
    written_behind more (marked other written) word ≡ written_behind (Access.wrote other value ∷ more) written word
written-wrote other value more written word =
    elim (cases_Bool (other == word)) [
      | inl same ↦ rw (same, either-true (written word)) refl
      | inr apart ↦ rw apart refl
    ]

pub noted-touched : (done : List Access) (shared written : Marks) → all_noted done (Notes.touched shared written) ≡ Notes.touched (shared_behind done shared written) (written_behind done written)
noted-touched [] shared written = λ i. Notes.touched (λ word. (sym (ap (λ b. shared word || b) (both-false (not (written word))) ∙ either-false (shared word))) i) (λ word. (sym (either-false (written word))) i)
noted-touched (Access.read word value ∷ more) shared written =
    noted-touched more (if written word then shared else marked word shared) written
    ∙ (λ i. Notes.touched (λ other. shared-read word value more shared written other i) (written_behind more written))
noted-touched (Access.wrote word value ∷ more) shared written =
    noted-touched more shared (marked word written)
    ∙ (λ i. Notes.touched (λ other. shared-wrote word value more shared written other i) (λ other. written-wrote word value more written other i))

-- of a run that begins with no marks
pub marks-are : (done : List Access) → all_noted done (Notes.touched no_marks no_marks) ≡ Notes.touched (is_shared done) (is_written done)
marks-are done = noted-touched done no_marks no_marks
