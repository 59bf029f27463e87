-- What a store holds among accesses: a word that none writes stays, and a reading tells what stands there.
use Rattle.std.proofs.Common.{◌≡◌, ◌==◌, ℕ, suc, List, [], ◌∷◌, ◌++◌, refl, sym, ◌∙◌, arith, true, false}
use Rattle.std.specs.Prelude.{Contains}
use Rattle.std.proofs.lemmas.Bool.Decides.{nat_tests}
use Rattle.task_syntax.specs.Course.{Course, Store, put, Access, accesses, after, written_words}

pub eq-itself : (a : ℕ) → (a == a) ≡ true
eq-itself a = grind (arith, nat_tests)

pub eq-other : (a b : ℕ) → (a ≡ b → ⊥) → (a == b) ≡ false
eq-other a b other = grind (arith, nat_tests)

pub put-itself : (word value : ℕ) (store : Store) → put word value store word ≡ value
put-itself word value store = rw (eq-itself word) refl

pub put-other : (word value other : ℕ) (store : Store) → (word ≡ other → ⊥) → put word value store other ≡ store other
put-other word value other store apart = rw (eq-other other word (λ e. apart (sym e))) refl

pub Contains-head : (first : ℕ) (more : List ℕ) → Contains (first ∷ more) first
Contains-head first more = (0, omega arith, refl)

pub Contains-tail : (first word : ℕ) (more : List ℕ) → Contains more word → Contains (first ∷ more) word
Contains-tail first word more (k, below, is) = (suc k, omega arith, is)

pub after-unwritten : (xs : List Access) (store : Store) (word : ℕ) → (Contains (written_words xs) word → ⊥) → after xs store word ≡ store word
after-unwritten [] store word absent = refl
after-unwritten (Access.read other value ∷ more) store word absent = after-unwritten more store word absent
after-unwritten (Access.wrote other value ∷ more) store word absent =
    after-unwritten more (put other value store) word (λ h. absent (Contains-tail other word (written_words more) h))
    ∙ put-other other value word store (λ e. absent (rw (← e) (Contains-head other (written_words more))))

-- the head and the rest of accesses that are split at a reading
pub reading_is : {A : Type 0} (course : Course A) (store : Store) (before more : List Access) (word value : ℕ) →
    accesses course store ≡ before ++ (Access.read word value ∷ more) → value ≡ after before store word
reading_is (Course.ends result) store [] more word value e = cc
reading_is (Course.ends result) store (first ∷ before) more word value e = cc
reading_is (Course.reads other go_on) store [] more word value e = cc
reading_is (Course.reads other go_on) store (Access.read w v ∷ before) more word value e = reading_is (go_on (store other)) store before more word value cc
reading_is (Course.reads other go_on) store (Access.wrote w v ∷ before) more word value e = cc
reading_is (Course.writes other new rest) store [] more word value e = cc
reading_is (Course.writes other new rest) store (Access.read w v ∷ before) more word value e = cc
reading_is (Course.writes other new rest) store (Access.wrote w v ∷ before) more word value e =
    let same_word : other ≡ w = cc in
    let same_value : new ≡ v = cc in
    rw (← same_word, ← same_value) (reading_is rest (put other new store) before more word value cc)
