-- What accesses leave written: joined accesses, what a store holds behind them, and which words are written at all.
use Rattle.std.proofs.Common.{◌≡◌, ◌==◌, ℕ, zero, suc, List, [], ◌∷◌, ◌++◌, refl, sym, ap, ◌∙◌, arith, inl, inr, true}
use Rattle.std.specs.Prelude.{◌&&◌, ◌||◌, not, is_some, Option, Some, None, Contains, unwrap_or, if◌then◌else◌}
use Rattle.std.specs.List.{list_any}
use Rattle.std.specs.Option.{option_or}
use Rattle.std.proofs.lemmas.Bool.{cases_eq, cases_Bool}
use Rattle.task_syntax.specs.Course.{Store, put, Access, after, written_words}
use Rattle.task_syntax.specs.CourseLaws.{TellsWritten}
use Rattle.task_syntax.specs.Written.{last_written, is_written, is_shared}
use Rattle.task_syntax.proofs.Moments.{eq-itself, eq-other, put-other, Contains-head, Contains-tail}

or-none : {A : Type 0} (a : Option A) → a ≡ option_or a None
or-none None = refl
or-none (Some a) = refl

or-or : {A : Type 0} (a b c : Option A) → option_or (option_or a b) c ≡ option_or a (option_or b c)
or-or None b c = refl
or-or (Some a) b c = refl

or-some : {A : Type 0} (a : Option A) (b : A) → is_some (option_or a (Some b)) ≡ true
or-some None b = refl
or-some (Some a) b = refl

unwrap-or_some : {A : Type 0} (a : Option A) (b d : A) → unwrap_or a b ≡ unwrap_or (option_or a (Some b)) d
unwrap-or_some None b d = refl
unwrap-or_some (Some a) b d = refl

pub last_written-append : (first more : List Access) (word : ℕ) →
    last_written (first ++ more) word ≡ option_or (last_written more word) (last_written first word)
last_written-append [] more word = or-none (last_written more word)
last_written-append (Access.read other value ∷ first) more word = last_written-append first more word
last_written-append (Access.wrote other value ∷ first) more word =
    let here : Option ℕ = if other == word then Some value else None in
    ap (λ (last : Option ℕ). option_or last here) (last_written-append first more word)
    ∙ or-or (last_written more word) (last_written first word) here

pub is_written-append : (first more : List Access) (word : ℕ) →
    is_written (first ++ more) word ≡ (is_written first word || is_written more word)
is_written-append [] more word = refl
is_written-append (Access.read other value ∷ first) more word = is_written-append first more word
is_written-append (Access.wrote other value ∷ first) more word =
    elim (cases_Bool (other == word)) [
      | inl same ↦ rw same refl
      | inr apart ↦ rw apart (is_written-append first more word)
    ]

pub is_shared-append : (first more : List Access) (word : ℕ) →
    is_shared (first ++ more) word ≡ (is_shared first word || (not (is_written first word) && is_shared more word))
is_shared-append [] more word = refl
is_shared-append (Access.read other value ∷ first) more word =
    elim (cases_Bool (other == word)) [
      | inl same ↦ rw same refl
      | inr apart ↦ rw apart (is_shared-append first more word)
    ]
is_shared-append (Access.wrote other value ∷ first) more word =
    elim (cases_Bool (other == word)) [
      | inl same ↦ rw same refl
      | inr apart ↦ rw apart (is_shared-append first more word)
    ]

-- a word holds the last value that is written to it
pub after-last : (done : List Access) (store : Store) (word : ℕ) → after done store word ≡ unwrap_or (last_written done word) (store word)
after-last [] store word = refl
after-last (Access.read other value ∷ more) store word = after-last more store word
after-last (Access.wrote other value ∷ more) store word =
    after-last more (put other value store) word ∙ elim (cases_eq other word) [
      | inl same ↦ rw (same, eq-itself word) (unwrap-or_some (last_written more word) value (store word))
      | inr apart ↦ rw (put-other other value word store apart, eq-other other word apart)
          (ap (λ (last : Option ℕ). unwrap_or last (store word)) (or-none (last_written more word)))
    ]

pub last-is_some : (done : List Access) (word : ℕ) → is_some (last_written done word) ≡ is_written done word
last-is_some [] word = refl
last-is_some (Access.read other value ∷ more) word = last-is_some more word
last-is_some (Access.wrote other value ∷ more) word =
    elim (cases_Bool (other == word)) [
      | inl same ↦ rw same (or-some (last_written more word) value)
      | inr apart ↦ rw apart (ap (λ (last : Option ℕ). is_some last) (sym (or-none (last_written more word))) ∙ last-is_some more word)
    ]

any-contained : (words : List ℕ) (word : ℕ) → Contains words word → list_any (λ other. other == word) words ≡ true
any-contained [] word (k, below, is) = absurd (omega (arith, below))
any-contained (first ∷ words) word (zero, below, is) = let same : first ≡ word = is in rw (same, eq-itself word) refl
any-contained (first ∷ words) word (suc k, below, is) =
    elim (cases_Bool (first == word)) [
      | inl same ↦ rw same refl
      | inr apart ↦ rw apart (any-contained words word (k, omega (arith, below), is))
    ]

contained-any : (words : List ℕ) (word : ℕ) → list_any (λ other. other == word) words ≡ true → Contains words word
contained-any [] word any = absurd cc
contained-any (first ∷ words) word any =
    elim (cases_eq first word) [
      | inl same ↦ rw (← same) (Contains-head first words)
      | inr apart ↦
          let rest : list_any (λ other. other == word) words ≡ true = rw (eq-other first word apart) at any in
          Contains-tail first word words (contained-any words word rest)
    ]

pub tells-written : (done : List Access) (word : ℕ) → TellsWritten done word
tells-written done word = record {
  contained = (any-contained (written_words done) word, contained-any (written_words done) word);
  last = last-is_some done word;
}
