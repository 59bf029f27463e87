-- The marked words, in their order.
use Rattle.std.proofs.Common.{◌≡◌, ◌<◌, ◌≤◌, ◌+◌, ℕ, zero, suc, List, [], ◌∷◌, ◌++◌, length, refl, sym, arith, inl, inr, Bool, true, false, length-append}
use Rattle.std.specs.Prelude.{Contains, slice_index, if◌then◌else◌}
use Rattle.std.specs.List.Sorted.{IsStrictlyIncreasing}
use Rattle.std.proofs.Math.Nat.{eq-or-lt_of_le}
use Rattle.std.proofs.lemmas.Bool.{cases_lt}
use Rattle.std.proofs.lemmas.List.{append-nil}
use Rattle.std.proofs.lemmas.List.Elements.{Contains-append_left, Contains-append_right, Contains-append_cases}
use Rattle.std.proofs.Math.ListN.{get_or-eq_default}
use Rattle.task_syntax.proofs.Moments.{Contains-head, Contains-tail}
use Rattle.serial_run.specs.Moments.{Marks}
use Rattle.serial_run.specs.Runs.{marks_of}
use Rattle.serial_run.specs.Touched.{marked_below, TellsWords}

get-front : (xs : List ℕ) (x at : ℕ) → at < length xs → slice_index (xs ++ x ∷ []) at ≡ slice_index xs at
get-front [] x at below = absurd (omega arith)
get-front (head ∷ more) x zero below = refl
get-front (head ∷ more) x (suc at) below = get-front more x at (omega arith)

get-last : (xs : List ℕ) (x at : ℕ) → at ≡ length xs → slice_index (xs ++ x ∷ []) at ≡ x
get-last [] x zero is = refl
get-last [] x (suc at) is = absurd (omega (arith, is))
get-last (head ∷ more) x zero is = absurd (omega (arith, is))
get-last (head ∷ more) x (suc at) is = get-last more x at (omega (arith, is))

contains_none : (word : ℕ) → Contains [] word → ⊥
contains_none word (k, below, is) = omega arith

only-one : (x word : ℕ) → Contains (x ∷ []) word → word ≡ x
only-one x word (zero, below, is) = sym is
only-one x word (suc k, below, is) = absurd (omega arith)

each-below : (xs : List ℕ) (x : ℕ) → ((word : ℕ) → Contains xs word → word < x) → (at : ℕ) → at < length xs → slice_index xs at < x
each-below [] x all at below = absurd (omega arith)
each-below (head ∷ more) x all zero below = all head (Contains-head head more)
each-below (head ∷ more) x all (suc at) below = each-below more x (λ word there. all word (Contains-tail head word more there)) at (omega arith)

rising-push : (xs : List ℕ) (x : ℕ) → IsStrictlyIncreasing xs → ((word : ℕ) → Contains xs word → word < x) → IsStrictlyIncreasing (xs ++ x ∷ [])
rising-push xs x rising all at below =
    let inside : at + 1 ≤ length xs = omega (arith, length-append xs (x ∷ [])) in
    elim (eq-or-lt_of_le inside) [
      | inl last ↦ rw (get-front xs x at (omega arith), get-last xs x (at + 1) last) (each-below xs x all at (omega arith))
      | inr before ↦ rw (get-front xs x at (omega arith), get-front xs x (at + 1) before) (rising at before)
    ]

-- a list of the marked words among the first ones
record Lists (count : ℕ) (marks : Marks) (xs : List ℕ) : Type 0 where
  pub rising : IsStrictlyIncreasing xs
  pub low : (word : ℕ) → Contains xs word → word < count
  pub is_marked : (word : ℕ) → Contains xs word → marks word ≡ true
  pub complete : (word : ℕ) → word < count → marks word ≡ true → Contains xs word

lists-further : (count : ℕ) (marks : Marks) (xs : List ℕ) → Lists count marks xs → (marked : Bool) → marks count ≡ marked → Lists (suc count) marks (xs ++ (if marked then count ∷ [] else []))
lists-further count marks xs lists true is = record {
  rising = rising-push xs count lists.rising lists.low;
  low = λ word there. elim (Contains-append_cases xs (count ∷ []) word there) [ inl before ↦ omega (arith, lists.low word before) | inr last ↦ omega (arith, only-one count word last) ];
  is_marked = λ word there. elim (Contains-append_cases xs (count ∷ []) word there) [ inl before ↦ lists.is_marked word before | inr last ↦ rw (only-one count word last) is ];
  complete = λ word below here.
      let inside : word ≤ count = omega arith in
      elim (eq-or-lt_of_le inside) [
        | inl last ↦ Contains-append_right xs (count ∷ []) word (rw last (Contains-head count []))
        | inr before ↦ Contains-append_left xs (count ∷ []) word (lists.complete word before here)
      ];
}
lists-further count marks xs lists false is = rw append-nil (record {
  rising = lists.rising;
  low = λ word there. omega (arith, lists.low word there);
  is_marked = lists.is_marked;
  complete = λ word below here.
      let inside : word ≤ count = omega arith in
      elim (eq-or-lt_of_le inside) [
        | inl last ↦ let unmarked : marks word ≡ false = rw last is in absurd cc
        | inr before ↦ lists.complete word before here
      ];
})

lists-marked : (count : ℕ) (marks : Marks) → Lists count marks (marked_below count marks)
lists-marked zero marks = record {
  rising = λ at below. absurd (omega arith);
  low = λ word there. absurd (contains_none word there);
  is_marked = λ word there. absurd (contains_none word there);
  complete = λ word below here. absurd (omega arith);
}
lists-marked (suc count) marks = lists-further count marks (marked_below count marks) (lists-marked count marks) (marks count) refl

-- where no other word is marked they are all that are
pub tells-below : (count : ℕ) (marks : Marks) → ((word : ℕ) → count ≤ word → marks word ≡ false) → TellsWords marks (marked_below count marks)
tells-below count marks rest =
    let lists = lists-marked count marks in
    record {
      rising = lists.rising;
      exact = λ word. (
        lists.is_marked word,
        λ here. elim (cases_lt word count) [
          | inl below ↦ lists.complete word below here
          | inr beyond ↦ let unmarked = rest word beyond in absurd cc
        ],
      );
    }

-- no word behind the marks is marked
pub marks-past : (marks : List Bool) (word : ℕ) → length marks ≤ word → marks_of marks word ≡ false
marks-past marks word past = get_or-eq_default marks false past
