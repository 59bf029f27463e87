-- Two stores that agree on the words that are read before they are written.
use Rattle.std.proofs.Common.{◌≡◌, ℕ, List, [], ◌∷◌, ◌++◌, refl, ap, inl, inr, true, false}
use Rattle.std.specs.Prelude.{All}
use Rattle.std.proofs.lemmas.Bool.{cases_eq}
use Rattle.std.proofs.lemmas.List.Elements.{All-head, All-tail}
use Rattle.task_syntax.specs.Course.{Course, Store, put, Access, accesses, answer, after, readings, written_words}
use Rattle.task_syntax.specs.CourseLaws.{AgreeOnShared, AreSame, DoesTheSame}
use Rattle.task_syntax.specs.ProgramLaws.{word_of}
use Rattle.task_syntax.specs.Written.{last_written, is_shared}
use Rattle.task_syntax.proofs.Moments.{eq-itself, eq-other, put-other}

pub agrees_on_read : (word value : ℕ) (more : List Access) (s t : Store) → AgreeOnShared (Access.read word value ∷ more) s t → s word ≡ t word
agrees_on_read word value more s t agree = agree word (rw (eq-itself word) refl)

pub agree_behind_read : (word value : ℕ) (more : List Access) (s t : Store) → AgreeOnShared (Access.read word value ∷ more) s t → AgreeOnShared more s t
agree_behind_read word value more s t agree other shared =
    elim (cases_eq word other) [
      | inl same ↦ agree other (rw same (rw (eq-itself other) refl))
      | inr apart ↦ agree other (rw (eq-other word other apart) shared)
    ]

pub agree_behind_write : (word value : ℕ) (more : List Access) (s t : Store) → AgreeOnShared (Access.wrote word value ∷ more) s t → AgreeOnShared more (put word value s) (put word value t)
agree_behind_write word value more s t agree other shared =
    elim (cases_eq word other) [
      | inl same ↦ rw same (rw (eq-itself other) refl)
      | inr apart ↦ rw (put-other word value other s apart, put-other word value other t apart) (agree other (rw (eq-other word other apart) shared))
    ]

-- the same accesses read, write and share the same
pub are_same : (one other : List Access) → one ≡ other → AreSame one other
are_same one other same = record {
  all = same;
  read = ap readings same;
  written = ap written_words same;
  last = λ word. ap (λ (done : List Access). last_written done word) same;
  shares = λ word. ap (λ (done : List Access). is_shared done word) same;
}

both_same : {A : Type 0} (course : Course A) (s t : Store) → accesses course t ≡ accesses course s → answer course t ≡ answer course s → DoesTheSame A course s t
both_same course s t done result = record { done = done; result = result; same = are_same (accesses course t) (accesses course s) done }

-- a course does the same on both
pub does_the_same : {A : Type 0} (course : Course A) (s t : Store) → AgreeOnShared (accesses course s) s t → DoesTheSame A course s t
does_the_same (Course.ends result) s t agree = both_same (Course.ends result) s t refl refl
does_the_same (Course.reads word go_on) s t agree =
    let here : s word ≡ t word = agrees_on_read word (s word) (accesses (go_on (s word)) s) s t agree in
    let rest = does_the_same (go_on (s word)) s t (agree_behind_read word (s word) (accesses (go_on (s word)) s) s t agree) in
    both_same (Course.reads word go_on) s t (rw (← here, rest.done) refl) (rw (← here) rest.result)
does_the_same (Course.writes word value rest) s t agree =
    let behind = does_the_same rest (put word value s) (put word value t) (agree_behind_write word value (accesses rest (put word value s)) s t agree) in
    both_same (Course.writes word value rest) s t (ap (λ more. Access.wrote word value ∷ more) behind.done) behind.result

-- what the first accesses share, the whole shares
pub is_shared-front : (first more : List Access) (word : ℕ) → is_shared first word ≡ true → is_shared (first ++ more) word ≡ true
is_shared-front [] more word shared = absurd cc
is_shared-front (Access.read other value ∷ first) more word shared =
    elim (cases_eq other word) [
      | inl same ↦ rw same (rw (eq-itself word) refl)
      | inr apart ↦ let rest : is_shared first word ≡ true = rw (eq-other other word apart) at shared in rw (eq-other other word apart) (is_shared-front first more word rest)
    ]
is_shared-front (Access.wrote other value ∷ first) more word shared =
    elim (cases_eq other word) [
      | inl same ↦ absurd (let none : false ≡ true = rw (same, eq-itself word) at shared in cc)
      | inr apart ↦ let rest : is_shared first word ≡ true = rw (eq-other other word apart) at shared in rw (eq-other other word apart) (is_shared-front first more word rest)
    ]

-- behind the first accesses the stores agree on what the later ones share
pub agree_behind : (first more : List Access) (s t : Store) → AgreeOnShared (first ++ more) s t → AgreeOnShared more (after first s) (after first t)
agree_behind [] more s t agree = agree
agree_behind (Access.read word value ∷ first) more s t agree = agree_behind first more s t (agree_behind_read word value (first ++ more) s t agree)
agree_behind (Access.wrote word value ∷ first) more s t agree =
    agree_behind first more (put word value s) (put word value t) (agree_behind_write word value (first ++ more) s t agree)

-- what holds of the word of each access holds of each word that is read before it is written
pub shared-access : (P : ℕ → Type 0) (done : List Access) (word : ℕ) → All (λ access. P (word_of access)) done → is_shared done word ≡ true → P word
shared-access P [] word all shared = absurd cc
shared-access P (Access.read other value ∷ more) word all shared =
    elim (cases_eq other word) [
      | inl same ↦ rw (← same) (All-head (λ access. P (word_of access)) (Access.read other value) more all)
      | inr apart ↦ let rest : is_shared more word ≡ true = rw (eq-other other word apart) at shared in
          shared-access P more word (All-tail (λ access. P (word_of access)) (Access.read other value) more all) rest
    ]
shared-access P (Access.wrote other value ∷ more) word all shared =
    elim (cases_eq other word) [
      | inl same ↦ absurd (let none : false ≡ true = rw (same, eq-itself word) at shared in cc)
      | inr apart ↦ let rest : is_shared more word ≡ true = rw (eq-other other word apart) at shared in
          shared-access P more word (All-tail (λ access. P (word_of access)) (Access.wrote other value) more all) rest
    ]
