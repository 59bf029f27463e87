-- How many writes are left of a task's commit into its transaction.
use Rattle.std.proofs.Common.{◌≡◌, ◌≢◌, ◌⊎◌, ℕ, zero, suc, ◌+◌, ◌*◌, ◌<◌, ◌≤◌, ◌==◌, refl, ap, sym, ◌∙◌, subst, arith, inl, inr, Some, None, Option, Bool, true, false, if◌then◌else◌}
use Rattle.std.proofs.lemmas.Bool.{cases_eq}
use Rattle.nv_memory.specs.declared.log.Log.TheVariants as log
use Rattle.nv_memory.specs.InRange.{InRange}
use Rattle.nv_memory.specs.State.{Change, State, put, set_to}
use Rattle.nv_memory.specs.Words.{attempt_flag, current, current_seat, first_seat, mark, mark_seat, next, opened_seat, tx_flag, tx_flag_seat}
use Rattle.nv_memory.specs.Logs.{IsLog, LogSeats, index_in, length_in, number_in, pair_value_in, task_log, tx_log, value_in}
use Rattle.nv_memory.proofs.LogWrites.{apart_of, number_written, value_behind_number, value_behind_value, value_longer, value_replaced}
use Rattle.nv_memory.proofs.Looks.{index_below, index_none, look_none, look_some, test_other, test_same}
use Rattle.tx_buffer.proofs.MergeWrites.{IsAbsent, IsFirstLeft, IsMergeWrite, joins, lengths, merge_write, numbers, renews, values}
use Rattle.commit_log.specs.Changes.{first_task}
use Rattle.commit_log.specs.Left.{begun, begun_at, begun_from, begun_pair, into_tx_left, lacking, sum_below, unjoined, unmerged, writes_left}
use Rattle.commit_log.proofs.Counts.{left_clear, undone_low, undone_none, undone_one}
use Rattle.commit_log.proofs.Merging.{IsIntoTxWrite, clears, empties, first_closed, first_open, firsts, leads, merges, opens}
use Rattle.commit_log.proofs.Sums.{sum_bound, sum_less, sum_place, sum_same}

present_step : (s : State) (word value : ℕ) (o : Option ℕ) → index_in s tx_log word ≡ o → value_in s tx_log word ≡ Some value → o ≢ None
present_step s word value None is e =
    let none = look_none (number_in s tx_log) (pair_value_in s tx_log) (length_in s tx_log) word is in absurd cc
present_step s word value (Some at) is e = λ n. absurd cc

-- a word that has a value there stands there
present : (s : State) (word value : ℕ) → value_in s tx_log word ≡ Some value → index_in s tx_log word ≢ None
present s word value e = present_step s word value (index_in s tx_log word) refl e

goes_on : (s : State) (at rest : ℕ) (o : Option ℕ) → o ≢ None → begun_at s at rest o ≡ rest
goes_on s at rest None n = absurd (n refl)
goes_on s at rest (Some x) n = refl

-- the walk comes to the first pair that is absent
reaches : (s : State) (at left i : ℕ) → at ≤ i → i < at + left → ((j : ℕ) → j < i → index_in s tx_log (number_in s task_log j) ≢ None)
    → IsAbsent s i → begun_from s at left ≡ begun_pair s i
reaches s at zero i low high there absent = absurd (omega (arith, low, high))
reaches s at (suc left) i low high there absent = elim (cases_eq at i) [
  | inl q ↦ subst (λ (k : ℕ). begun_at s k (begun_from s (suc k) left) (index_in s tx_log (number_in s task_log k)) ≡ begun_pair s i) (sym q) (rw absent refl)
  | inr n ↦
      goes_on s at (begun_from s (suc at) left) (index_in s tx_log (number_in s task_log at)) (there at (omega (arith, low, n)))
      ∙ reaches s (suc at) left i (omega (arith, low, n)) (omega (arith, high)) there absent
]

begun_is : (s : State) (i : ℕ) → IsFirstLeft s i → IsAbsent s i → begun s ≡ begun_pair s i
begun_is s i left absent =
    reaches s 0 (length_in s task_log) i (omega arith) (let low = left.low in omega (arith, low))
    (λ j l. present s (number_in s task_log j) (pair_value_in s task_log j) (left.before j l)) absent

two_low : (b c : Bool) → (if b then (if c then 2 else 1) else 0) ≤ 2
two_low true true = omega arith
two_low true false = omega arith
two_low false c = omega arith

pair_low : (s : State) (i : ℕ) → begun_pair s i ≤ 2
pair_low s i =
    two_low (number_in s tx_log (length_in s tx_log) == number_in s task_log i) (pair_value_in s tx_log (length_in s tx_log) == pair_value_in s task_log i)

absent_three : (s : State) (i : ℕ) → IsAbsent s i → unmerged s i ≡ 3
absent_three s i absent =
    ap (lacking (pair_value_in s task_log i))
    (look_none (number_in s tx_log) (pair_value_in s tx_log) (length_in s tx_log) (number_in s task_log i) absent)

low_step : (s : State) (at left rest : ℕ) (o : Option ℕ) → index_in s tx_log (number_in s task_log at) ≡ o
    → rest ≤ sum_below (unmerged s) (suc at + left) → begun_at s at rest o ≤ sum_below (unmerged s) (at + suc left)
low_step s at left rest None is low =
    let place = sum_place (unmerged s) (at + suc left) at (omega arith) in
    let three = absent_three s at is in
    let two = pair_low s at in
    omega (arith, place, three, two)
low_step s at left rest (Some x) is low = subst (λ (n : ℕ). rest ≤ sum_below (unmerged s) n) (let e : suc at + left ≡ at + suc left = omega arith in e) low

-- what has begun is among what is left
begun_low : (s : State) (at left : ℕ) → begun_from s at left ≤ sum_below (unmerged s) (at + left)
begun_low s at zero = omega arith
begun_low s at (suc left) =
    low_step s at left (begun_from s (suc at) left) (index_in s tx_log (number_in s task_log at)) refl (begun_low s (suc at) left)

begun_within : (s : State) → begun s ≤ sum_below (unmerged s) (length_in s task_log)
begun_within s =
    subst (λ (n : ℕ). begun s ≤ sum_below (unmerged s) n) (let e : 0 + length_in s task_log ≡ length_in s task_log = omega arith in e)
    (begun_low s 0 (length_in s task_log))

at_same : (s t : State) (at r q : ℕ) (o : Option ℕ) → begun_pair t at ≡ begun_pair s at → q ≡ r → begun_at t at q o ≡ begun_at s at r o
at_same s t at r q None pair rest = pair
at_same s t at r q (Some x) pair rest = rest

begun_same : (s t : State) (at left : ℕ) → ((i : ℕ) → begun_pair t i ≡ begun_pair s i)
    → ((i : ℕ) → index_in t tx_log (number_in t task_log i) ≡ index_in s tx_log (number_in s task_log i)) → begun_from t at left ≡ begun_from s at left
begun_same s t at zero pairs index = refl
begun_same s t at (suc left) pairs index =
    ap (begun_at t at (begun_from t (suc at) left)) (index at)
    ∙ at_same s t at (begun_from s (suc at) left) (begun_from t (suc at) left) (index_in s tx_log (number_in s task_log at)) (pairs at)
    (begun_same s t (suc at) left pairs index)

-- two pairs of the task log have two words
nums_differ : (s : State) (l : LogSeats) (i j : ℕ) → IsLog s l → i < length_in s l → j < length_in s l → j ≢ i → number_in s l i ≢ number_in s l j
nums_differ s l i j is low high n =
    let either : (i < j) ⊎ (j < i) = grind (arith, n) in
    elim either [ inl h ↦ is.once i j h high | inr h ↦ λ e. is.once j i h low (sym e) ]

pub left_into : (s : State) → mark s ≡ 1 → writes_left s ≡ into_tx_left s
left_into s one = rw one refl

lacks_none : (value : ℕ) → lacking value (Some value) ≡ 0
lacks_none value = rw (test_same value value refl) refl

lacks_one : (value other : ℕ) → other ≢ value → lacking value (Some other) ≡ 1
lacks_one value other n = rw (test_other other value n) refl

one_low : (b : Bool) → 1 ≤ (if b then 2 else 1)
one_low true = omega arith
one_low false = omega arith

module _ (s : State) (one : mark s ≡ 1) (r : InRange s) where
  renew_goes_on : (i at : ℕ) → IsFirstLeft s i → index_in s tx_log (number_in s task_log i) ≡ Some at → pair_value_in s tx_log at ≢ pair_value_in s task_log i
      → writes_left (put s (set_to (tx_log.value at) (pair_value_in s task_log i))) < writes_left s
  renew_goes_on i at left is n =
      let word = number_in s task_log i in
      let value = pair_value_in s task_log i in
      let t = put s (set_to (tx_log.value at) value) in
      let end = length_in s tx_log in
      let low = (index_below (number_in s tx_log) end word at is).0 in
      let found : value_in s tx_log word ≡ Some (pair_value_in s tx_log at) = look_some (number_in s tx_log) (pair_value_in s tx_log) end word at is in
      let before : unmerged s i ≡ 1 = ap (lacking value) found ∙ lacks_one value (pair_value_in s tx_log at) n in
      let replaced = value_replaced s tx_log (apart_of log.Tx) at word value in
      let here : value_in t tx_log word ≡ Some value = replaced word is ∙ rw (test_same word word refl) refl in
      let after : unmerged t i ≡ 0 = ap (lacking value) here ∙ lacks_none value in
      let less = sum_less (unmerged s) (unmerged t) (length_in s task_log) i 1 left.low (omega (arith, before, after))
      (λ j h k.
      let other = number_in s task_log j in
      let differ = nums_differ s task_log i j (r.logs log.Task tt) left.low h k in
      let kept : value_in t tx_log other ≡ value_in s tx_log other = replaced other is ∙ rw (test_other word other differ) refl in
      ap (lacking (pair_value_in s task_log j)) kept) in
      let same : begun t ≡ begun s = begun_same s t 0 (length_in s task_log)
      (λ j. rw (test_other end at (omega (arith, low))) refl) (λ j. refl) in
      let within = begun_within t in
      let now = left_into t one in
      let was = left_into s one in
      omega (arith, less, same, within, now, was)

  number_goes_on : (i : ℕ) → IsFirstLeft s i → IsAbsent s i → number_in s tx_log (length_in s tx_log) ≢ number_in s task_log i
      → writes_left (put s (set_to (tx_log.number (length_in s tx_log)) (number_in s task_log i))) < writes_left s
  number_goes_on i left absent n =
      let word = number_in s task_log i in
      let end = length_in s tx_log in
      let t = put s (set_to (tx_log.number end) word) in
      let kept : (other : ℕ) → value_in t tx_log other ≡ value_in s tx_log other = λ other. value_behind_number s tx_log (apart_of log.Tx) end word other (omega arith) in
      let same = sum_same (unmerged s) (unmerged t) (length_in s task_log) (λ j h. ap (lacking (pair_value_in s task_log j)) (kept (number_in s task_log j))) in
      let lost : IsAbsent t i = index_none (number_in t tx_log) (pair_value_in t tx_log) end word
      (kept word ∙ look_none (number_in s tx_log) (pair_value_in s tx_log) end word absent) in
      let still : IsFirstLeft t i = record { low = left.low; before = λ j h. kept (number_in s task_log j) ∙ left.before j h } in
      let before : begun s ≡ 0 = begun_is s i left absent ∙ rw (test_other (number_in s tx_log end) word n) refl in
      let after : 1 ≤ begun t = subst (λ (x : ℕ). 1 ≤ x) (sym (begun_is t i still lost))
      (rw (number_written s tx_log (apart_of log.Tx) end word) (rw (test_same word word refl) (one_low _))) in
      let place = sum_place (unmerged s) (length_in s task_log) i left.low in
      let three = absent_three s i absent in
      let now = left_into t one in
      let was = left_into s one in
      omega (arith, same, before, after, place, three, now, was)

  value_goes_on : (i : ℕ) → IsFirstLeft s i → IsAbsent s i → number_in s tx_log (length_in s tx_log) ≡ number_in s task_log i
      → pair_value_in s tx_log (length_in s tx_log) ≢ pair_value_in s task_log i
      → writes_left (put s (set_to (tx_log.value (length_in s tx_log)) (pair_value_in s task_log i))) < writes_left s
  value_goes_on i left absent named n =
      let word = number_in s task_log i in
      let value = pair_value_in s task_log i in
      let end = length_in s tx_log in
      let t = put s (set_to (tx_log.value end) value) in
      let kept : (other : ℕ) → value_in t tx_log other ≡ value_in s tx_log other = λ other. value_behind_value s tx_log (apart_of log.Tx) end value other (omega arith) in
      let same = sum_same (unmerged s) (unmerged t) (length_in s task_log) (λ j h. ap (lacking (pair_value_in s task_log j)) (kept (number_in s task_log j))) in
      let still : IsFirstLeft t i = record { low = left.low; before = λ j h. kept (number_in s task_log j) ∙ left.before j h } in
      let before : begun s ≡ 1 = begun_is s i left absent ∙ rw (test_same (number_in s tx_log end) word named, test_other (pair_value_in s tx_log end) value n) refl in
      let after : begun t ≡ 2 = begun_is t i still absent
      ∙ rw (test_same (number_in s tx_log end) word named) (rw (test_same end end refl) (rw (test_same value value refl) refl)) in
      let place = sum_place (unmerged s) (length_in s task_log) i left.low in
      let three = absent_three s i absent in
      let now = left_into t one in
      let was = left_into s one in
      omega (arith, same, before, after, place, three, now, was)

  length_goes_on : (i : ℕ) → IsFirstLeft s i → IsAbsent s i → number_in s tx_log (length_in s tx_log) ≡ number_in s task_log i
      → pair_value_in s tx_log (length_in s tx_log) ≡ pair_value_in s task_log i
      → writes_left (put s (set_to tx_log.length (length_in s tx_log + 1))) < writes_left s
  length_goes_on i left absent named valued =
      let word = number_in s task_log i in
      let value = pair_value_in s task_log i in
      let end = length_in s tx_log in
      let t = put s (set_to tx_log.length (end + 1)) in
      let longer : (other : ℕ) → value_in t tx_log other ≡ (if word == other then Some value else value_in s tx_log other) =
      λ other. value_longer s tx_log (apart_of log.Tx) word value other named valued in
      let three = absent_three s i absent in
      let here : value_in t tx_log word ≡ Some value = longer word ∙ rw (test_same word word refl) refl in
      let after : unmerged t i ≡ 0 = ap (lacking value) here ∙ lacks_none value in
      let less = sum_less (unmerged s) (unmerged t) (length_in s task_log) i 3 left.low (omega (arith, three, after))
      (λ j h k.
      let other = number_in s task_log j in
      let differ = nums_differ s task_log i j (r.logs log.Task tt) left.low h k in
      let kept : value_in t tx_log other ≡ value_in s tx_log other = longer other ∙ rw (test_other word other differ) refl in
      ap (lacking (pair_value_in s task_log j)) kept) in
      let before : begun s ≡ 2 = begun_is s i left absent ∙ rw (test_same (number_in s tx_log end) word named, test_same (pair_value_in s tx_log end) value valued) refl in
      let now = left_into t one in
      let was = left_into s one in
      omega (arith, less, before, now, was)

  join_goes_on : (word : ℕ) → word < s.n → attempt_flag s word ≡ true → s.at (tx_flag_seat word) ≢ 1
      → writes_left (put s (set_to (tx_flag_seat word) 1)) < writes_left s
  join_goes_on word l set n =
      let t = put s (set_to (tx_flag_seat word) 1) in
      let before : unjoined s word ≡ 1 = rw (set, test_other (s.at (tx_flag_seat word)) 1 n) refl in
      let after : unjoined t word ≡ 0 = rw set (rw (test_same word word refl) refl) in
      let less = sum_less (unjoined s) (unjoined t) s.n word 1 l (omega (arith, before, after)) (λ other h k. rw (test_other other word k) refl) in
      let now = left_into t one in
      let was = left_into s one in
      omega (arith, less, now, was)

  merge_goes_on : (c : Change) → IsMergeWrite s c → writes_left (put s c) < writes_left s
  merge_goes_on c (renews i at left is n e) = subst (λ (x : Change). writes_left (put s x) < writes_left s) (sym e) (renew_goes_on i at left is n)
  merge_goes_on c (numbers i left absent n e) = subst (λ (x : Change). writes_left (put s x) < writes_left s) (sym e) (number_goes_on i left absent n)
  merge_goes_on c (values i left absent named n e) =
      subst (λ (x : Change). writes_left (put s x) < writes_left s) (sym e) (value_goes_on i left absent named n)
  merge_goes_on c (lengths i left absent named valued e) =
      subst (λ (x : Change). writes_left (put s x) < writes_left s) (sym e) (length_goes_on i left absent named valued)
  merge_goes_on c (joins word before l set n e) =
      subst (λ (x : Change). writes_left (put s x) < writes_left s) (sym e) (join_goes_on word l set n)

  -- a write of a task's commit leaves fewer
  pub into_tx_goes_on : (c : Change) → IsIntoTxWrite s c → writes_left (put s c) < writes_left s
  into_tx_goes_on c (merges e) = merge_goes_on c (merge_write s c e)
  into_tx_goes_on c (firsts o n e) =
      let t = put s (set_to first_seat (current s)) in
      let before = undone_one s (set_to first_seat (first_task s)) (λ q. n (q ∙ first_closed s o)) in
      let after = undone_none t (set_to first_seat (first_task t)) (sym (first_closed t o)) in
      let now = left_into t one in
      let was = left_into s one in
      subst (λ (x : Change). writes_left (put s x) < writes_left s) (sym e) (omega (arith, before, after, now, was))
  into_tx_goes_on c (opens o same e) =
      let t = put s (set_to opened_seat 1) in
      let before = undone_one s (set_to opened_seat 1) o in
      let after = undone_none t (set_to opened_seat 1) refl in
      let first = undone_none t (set_to first_seat (first_task t)) refl in
      let now = left_into t one in
      let was = left_into s one in
      subst (λ (x : Change). writes_left (put s x) < writes_left s) (sym e) (omega (arith, before, after, first, now, was))
  into_tx_goes_on c (leads o n e) =
      let t = put s (set_to current_seat (next s)) in
      let before = undone_one s (set_to current_seat (next s)) n in
      let after = undone_none t (set_to current_seat (next t)) refl in
      let first = undone_none t (set_to first_seat (first_task t)) (sym (first_open t o)) in
      let now = left_into t one in
      let was = left_into s one in
      subst (λ (x : Change). writes_left (put s x) < writes_left s) (sym e) (omega (arith, before, after, first, now, was))
  into_tx_goes_on c (empties o merged n e) =
      let t = put s (set_to task_log.length 0) in
      let before = undone_one s (set_to task_log.length 0) n in
      let after = undone_none t (set_to task_log.length 0) refl in
      let now = left_into t one in
      let was = left_into s one in
      subst (λ (x : Change). writes_left (put s x) < writes_left s) (sym e) (omega (arith, before, after, now, was))
  into_tx_goes_on c (clears o same merged empty e) =
      let none = left_clear (put s (set_to mark_seat 0)) refl in
      let was = left_into s one in
      subst (λ (x : Change). writes_left (put s x) < writes_left s) (sym e) (omega (arith, none, was))

lacking_low : (value : ℕ) (o : Option ℕ) → lacking value o ≤ 3
lacking_low value None = omega arith
lacking_low value (Some other) = bit_step (other == value)
  where
    bit_step : (b : Bool) → (if b then 0 else 1) ≤ 3
    bit_step true = omega arith
    bit_step false = omega arith

joined_low : (a b : Bool) → (if a then (if b then 0 else 1) else 0) ≤ 1
joined_low true true = omega arith
joined_low true false = omega arith
joined_low false b = omega arith

-- few are left at most
pub into_tx_few : (s : State) → InRange s → into_tx_left s ≤ 4 * s.n + 5
into_tx_few s r =
    let pairs = sum_bound (unmerged s) (length_in s task_log) 3 (λ i. lacking_low (pair_value_in s task_log i) (value_in s tx_log (number_in s task_log i))) in
    let flags = sum_bound (unjoined s) s.n 1 (λ word. joined_low (attempt_flag s word) (tx_flag s word)) in
    let short = (r.logs log.Task tt).short in
    let a = undone_low s (set_to first_seat (first_task s)) in
    let b = undone_low s (set_to opened_seat 1) in
    let c = undone_low s (set_to current_seat (next s)) in
    let d = undone_low s (set_to task_log.length 0) in
    omega (arith, pairs, flags, short, a, b, c, d)
