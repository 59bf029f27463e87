-- What a write makes of a log: its range and its look-ups.
use Rattle.std.proofs.Common.{◌≡◌, ◌≢◌, ◌⊎◌, inl, inr, ℕ, zero, suc, ◌+◌, ◌<◌, ◌≤◌, ◌==◌, refl, sym, ap, ◌∙◌, arith, add-one, Bool, true, false, if◌then◌else◌, Some, None, Option, List, [], ◌∷◌, length, eqb, ◌||◌}
use Rattle.std.specs.List.{AllByRecursion, IsDistinct, list_any}
use Rattle.std.proofs.lemmas.Bool.{cases_eq, ne_eqb}
use Rattle.std.proofs.lemmas.Bool.Decides.{nat_tests}
use Rattle.std.proofs.lemmas.Map.Steps.{length-le_from_distinct_below}
use Rattle.nv_memory.specs.declared.log.Log.{Log}
use Rattle.nv_memory.specs.declared.log.Log.TheVariants as log
use Rattle.nv_memory.specs.Seats.{Seat}
use Rattle.nv_memory.specs.State.{State, is_same, put, set_to}
use Rattle.nv_memory.specs.Logs.{IsLog, LogSeats, entry_log, index_in, length_in, look_up, number_in, pair_value_in, seats_of, value_in}
use Rattle.nv_memory.proofs.Looks.{found_at, look_above, look_replaced, none_among, none_at, put_at, test_other, test_same}

-- the seats of a log differ
pub record IsApart (l : LogSeats) : Type 0 where
  pub numbers : (i j : ℕ) → is_same (l.number i) (l.number j) ≡ (i == j)
  pub values : (i j : ℕ) → is_same (l.value i) (l.value j) ≡ (i == j)
  pub number_value : (i j : ℕ) → is_same (l.number i) (l.value j) ≡ false
  pub value_number : (i j : ℕ) → is_same (l.value i) (l.number j) ≡ false
  pub number_length : (i : ℕ) → is_same (l.number i) l.length ≡ false
  pub value_length : (i : ℕ) → is_same (l.value i) l.length ≡ false
  pub length_number : (i : ℕ) → is_same l.length (l.number i) ≡ false
  pub length_value : (i : ℕ) → is_same l.length (l.value i) ≡ false
  pub length_itself : is_same l.length l.length ≡ true

one_slot : (slot : ℕ) (b : Bool) → (if b then slot == slot else false) ≡ b
one_slot slot true = test_same slot slot refl
one_slot slot false = refl

pub apart_of : (log : Log) → IsApart (seats_of log)
apart_of log.Task = record {
  numbers = λ i j. refl;
  values = λ i j. refl;
  number_value = λ i j. refl;
  value_number = λ i j. refl;
  number_length = λ i. refl;
  value_length = λ i. refl;
  length_number = λ i. refl;
  length_value = λ i. refl;
  length_itself = refl;
}
apart_of log.Tx = record {
  numbers = λ i j. refl;
  values = λ i j. refl;
  number_value = λ i j. refl;
  value_number = λ i j. refl;
  number_length = λ i. refl;
  value_length = λ i. refl;
  length_number = λ i. refl;
  length_value = λ i. refl;
  length_itself = refl;
}
apart_of (log.Entry slot) = record {
  numbers = λ i j. one_slot slot (i == j);
  values = λ i j. one_slot slot (i == j);
  number_value = λ i j. refl;
  value_number = λ i j. refl;
  number_length = λ i. refl;
  value_length = λ i. refl;
  length_number = λ i. refl;
  length_value = λ i. refl;
  length_itself = one_slot slot true;
}

-- the seat is none of the log's
pub record LiesApart (l : LogSeats) (seat : Seat) : Type 0 where
  pub length : is_same l.length seat ≡ false
  pub number : (i : ℕ) → is_same (l.number i) seat ≡ false
  pub value : (i : ℕ) → is_same (l.value i) seat ≡ false

-- a log of which no word number and not the length is changed
pub log_kept : (s t : State) (l : LogSeats) → t.n ≡ s.n → length_in t l ≡ length_in s l
    → ((i : ℕ) → i < length_in s l → number_in t l i ≡ number_in s l i) → IsLog s l → IsLog t l
log_kept s t l count same there r = record {
  short = rw (same, count) r.short;
  below = λ i h. let low : i < length_in s l = rw same at h in rw (there i low, count) (r.below i low);
  once = λ i j h g. let low : j < length_in s l = rw same at g in rw (there i (omega arith), there j low) (r.once i j h low);
}

-- a write that lies apart
module _ (s : State) (l : LogSeats) (seat : Seat) (value : ℕ) (lies : LiesApart l seat) where
  pub log_beside : IsLog s l → IsLog (put s (set_to seat value)) l
  log_beside r = log_kept s (put s (set_to seat value)) l refl (rw lies.length refl) (λ i h. rw (lies.number i) refl) r

  pub value_beside : (word : ℕ) → value_in (put s (set_to seat value)) l word ≡ value_in s l word
  value_beside word = rw lies.length (look_above _ _ _ _ (length_in s l) word (λ i h. rw (lies.number i) refl) (λ i h. rw (lies.value i) refl))

-- there is room in a log for a word that isn't in it: the words of its pairs, all of them different, are below n
abbrev listed : (ℕ → ℕ) → ℕ → List ℕ
listed num zero = []
listed num (suc k) = num k ∷ listed num k

listed_length : (num : ℕ → ℕ) (k : ℕ) → length (listed num k) ≡ k
listed_length num zero = refl
listed_length num (suc k) = ap suc (listed_length num k)

others : (num : ℕ → ℕ) (k a : ℕ) → ((i : ℕ) → i < k → num i ≢ a) → AllByRecursion (λ w. eqb a w ≡ false) (listed num k)
others num zero a h = tt
others num (suc k) a h = (ne_eqb a (num k) (λ q. h k (omega arith) (sym q)), others num k a (λ i l. h i (omega arith)))

distinct : (num : ℕ → ℕ) (k : ℕ) → ((i j : ℕ) → i < j → j < k → num i ≢ num j) → IsDistinct eqb (listed num k)
unfolding IsDistinct
distinct num zero h = tt
distinct num (suc k) h = (others num k (num k) (λ i l. h i k l (omega arith)), distinct num k (λ i j l g. h i j l (omega arith)))

below_step : (q w n : ℕ) (b rest : Bool) → eqb q w ≡ b → w < n → (rest ≡ true → q < n) → (b || rest) ≡ true → q < n
below_step q w n true rest is low more e = let same : q ≡ w = grind (arith, nat_tests) in omega arith
below_step q w n false rest is low more e = more e

listed_below : (num : ℕ → ℕ) (n k : ℕ) → ((i : ℕ) → i < k → num i < n) → (q : ℕ) → list_any (eqb q) (listed num k) ≡ true → q < n
listed_below num n zero h q e = absurd cc
listed_below num n (suc k) h q e =
    below_step q (num k) n (eqb q (num k)) (list_any (eqb q) (listed num k)) refl (h k (omega arith)) (listed_below num n k (λ i l. h i (omega arith)) q) e

pub room_for_new : (s : State) (l : LogSeats) (word : ℕ) → IsLog s l → word < s.n → value_in s l word ≡ None → length_in s l < s.n
unfolding IsDistinct
room_for_new s l word r low none =
    let num : ℕ → ℕ = number_in s l in
    let k = length_in s l in
    let all = word ∷ listed num k in
    let d : IsDistinct eqb all = (others num k word (none_at num (pair_value_in s l) k word none), distinct num k r.once) in
    let b : (q : ℕ) → list_any (eqb q) all ≡ true → q < s.n =
    λ q e. below_step q word s.n (eqb q word) (list_any (eqb q) (listed num k)) refl low (listed_below num s.n k r.below q) e in
    omega (arith, length-le_from_distinct_below all s.n d b, listed_length num k)

-- no word from n on is in a log
pub none_beyond : (s : State) (l : LogSeats) (word : ℕ) → IsLog s l → s.n ≤ word → value_in s l word ≡ None
none_beyond s l word r beyond =
    none_among (number_in s l) (pair_value_in s l) (length_in s l) word (λ i h e. let low = r.below i h in omega (arith, low, e))

longer_step : (n len i : ℕ) (num : ℕ → ℕ) → ((i : ℕ) → i < len → num i < n) → num len < n → i < len + 1 → num i < n
longer_step n len i num below last h = elim (cases_eq i len) [
  | inl e ↦ rw e last
  | inr d ↦ below i (omega (arith, d, h))
]

once_step : (len i j : ℕ) (num : ℕ → ℕ) → ((i j : ℕ) → i < j → j < len → num i ≢ num j) → ((i : ℕ) → i < len → num i ≢ num len)
    → i < j → j < len + 1 → num i ≢ num j
once_step len i j num once fresh h g = elim (cases_eq j len) [
  | inl e ↦ rw e (fresh i (omega (arith, e, h)))
  | inr d ↦ once i j h (omega (arith, d, g))
]

-- writes to a log of which the seats differ
module _ (s : State) (l : LogSeats) (apart : IsApart l) where
  abbrev num : ℕ → ℕ
  num i = number_in s l i

  abbrev val : ℕ → ℕ
  val i = pair_value_in s l i

  abbrev len : ℕ
  len = length_in s l

  -- a value is written over
  pub value_replaced : (at word value other : ℕ) → index_in s l word ≡ Some at
      → value_in (put s (set_to (l.value at) value)) l other ≡ (if word == other then Some value else value_in s l other)
  value_replaced at word value other e =
      rw (apart.length_value at)
      (look_above num (put_at val at value) _ _ len other (λ i _. rw (apart.number_value i at) refl) (λ i _. rw (apart.values i at) refl)
      ∙ look_replaced num val len word at value other e)

  pub log_after_value : (at value : ℕ) → IsLog s l → IsLog (put s (set_to (l.value at) value)) l
  log_after_value at value r =
      log_kept s (put s (set_to (l.value at) value)) l refl (rw (apart.length_value at) refl) (λ i _. rw (apart.number_value i at) refl) r

  -- a word number or a value is written from the length on
  pub value_behind_number : (at value other : ℕ) → len ≤ at → value_in (put s (set_to (l.number at) value)) l other ≡ value_in s l other
  value_behind_number at value other high =
      rw (apart.length_number at)
      (look_above num val _ _ len other (λ i h. rw (apart.numbers i at, test_other i at (omega (arith, h, high))) refl)
      (λ i _. rw (apart.value_number i at) refl))

  pub log_behind_number : (at value : ℕ) → len ≤ at → IsLog s l → IsLog (put s (set_to (l.number at) value)) l
  log_behind_number at value high r =
      log_kept s (put s (set_to (l.number at) value)) l refl (rw (apart.length_number at) refl)
      (λ i h. rw (apart.numbers i at, test_other i at (omega (arith, h, high))) refl) r

  pub value_behind_value : (at value other : ℕ) → len ≤ at → value_in (put s (set_to (l.value at) value)) l other ≡ value_in s l other
  value_behind_value at value other high =
      rw (apart.length_value at)
      (look_above num val _ _ len other (λ i _. rw (apart.number_value i at) refl)
      (λ i h. rw (apart.values i at, test_other i at (omega (arith, h, high))) refl))

  -- what was written there stands there
  pub number_written : (at value : ℕ) → number_in (put s (set_to (l.number at) value)) l at ≡ value
  number_written at value = rw (apart.numbers at at, test_same at at refl) refl

  pub value_written : (at value : ℕ) → pair_value_in (put s (set_to (l.value at) value)) l at ≡ value
  value_written at value = rw (apart.values at at, test_same at at refl) refl

  pub length_beside_number : (at value : ℕ) → length_in (put s (set_to (l.number at) value)) l ≡ len
  length_beside_number at value = rw (apart.length_number at) refl

  pub length_beside_value : (at value : ℕ) → length_in (put s (set_to (l.value at) value)) l ≡ len
  length_beside_value at value = rw (apart.length_value at) refl

  pub number_beside_value : (at value i : ℕ) → number_in (put s (set_to (l.value at) value)) l i ≡ num i
  number_beside_value at value i = rw (apart.number_value i at) refl

  -- the log with one pair more
  pub value_longer : (word value other : ℕ) → num len ≡ word → val len ≡ value
      → value_in (put s (set_to l.length (len + 1))) l other ≡ (if word == other then Some value else value_in s l other)
  value_longer word value other named valued =
      rw (apart.length_itself, add-one)
      (rw (apart.number_length len, apart.value_length len, named, valued)
      (ap (λ (o : Option ℕ). if word == other then Some value else o)
      (look_above num val _ _ len other (λ i _. rw (apart.number_length i) refl) (λ i _. rw (apart.value_length i) refl))))

  pub log_longer : (word : ℕ) → word < s.n → value_in s l word ≡ None → num len ≡ word → IsLog s l → IsLog (put s (set_to l.length (len + 1))) l
  log_longer word low none named r = record {
    short = rw apart.length_itself (let room = room_for_new s l word r low none in omega (arith, room));
    below = rw apart.length_itself (λ i h. rw (apart.number_length i) (longer_step s.n len i num r.below (rw named low) h));
    once = rw apart.length_itself (λ i j h g. rw (apart.number_length i, apart.number_length j)
        (once_step len i j num r.once (λ k q. rw named (none_at num val len word none k q)) h g));
  }

  -- the emptied log
  pub value_emptied : (other : ℕ) → value_in (put s (set_to l.length 0)) l other ≡ None
  value_emptied other = rw apart.length_itself refl

  pub log_emptied : IsLog (put s (set_to l.length 0)) l
  log_emptied = record {
    short = rw apart.length_itself (omega arith);
    below = rw apart.length_itself (λ i h. absurd (omega arith));
    once = rw apart.length_itself (λ i j h g. absurd (omega arith));
  }

-- a log has no word exactly where it has no pair
empty_step : (s : State) (l : LogSeats) (k : ℕ) → length_in s l ≡ k → IsLog s l → ((word : ℕ) → value_in s l word ≡ None) → k ≡ 0
empty_step s l zero e r none = refl
empty_step s l (suc k) e r none =
    let low : 0 < length_in s l = rw e (omega arith) in
    let found = found_at (number_in s l) (pair_value_in s l) (length_in s l) 0 r.once low in
    let no = none (number_in s l 0) in absurd cc

pub empty_length : (s : State) (l : LogSeats) → IsLog s l → ((word : ℕ) → value_in s l word ≡ None) → length_in s l ≡ 0
empty_length s l r none = empty_step s l (length_in s l) refl r none

pub empty_of : (s : State) (l : LogSeats) → length_in s l ≡ 0 → (word : ℕ) → value_in s l word ≡ None
empty_of s l e word = ap (λ (k : ℕ). look_up (number_in s l) (pair_value_in s l) k word) e

-- two logs are one, or no seat of the one is the other's
pub record AreApart (l other : LogSeats) : Type 0 where
  pub length : LiesApart l other.length
  pub number : (i : ℕ) → LiesApart l (other.number i)
  pub value : (i : ℕ) → LiesApart l (other.value i)

other_slot : (s t : ℕ) (b : Bool) → s ≢ t → (if b then s == t else false) ≡ false
other_slot s t true n = test_other s t n
other_slot s t false n = refl

pub entries_apart : (s t : ℕ) → s ≢ t → AreApart (entry_log s) (entry_log t)
entries_apart s t n = record {
  length = record { length = other_slot s t true n; number = λ i. refl; value = λ i. refl };
  number = λ j. record { length = refl; number = λ i. other_slot s t (i == j) n; value = λ i. refl };
  value = λ j. record { length = refl; number = λ i. refl; value = λ i. other_slot s t (i == j) n };
}

pub logs_apart : (a b : Log) → (a ≡ b) ⊎ AreApart (seats_of a) (seats_of b)
logs_apart log.Task log.Task = inl refl
logs_apart log.Task log.Tx = inr (record {
  length = record { length = refl; number = λ i. refl; value = λ i. refl };
  number = λ j. record { length = refl; number = λ i. refl; value = λ i. refl };
  value = λ j. record { length = refl; number = λ i. refl; value = λ i. refl };
})
logs_apart log.Task (log.Entry t) = inr (record {
  length = record { length = refl; number = λ i. refl; value = λ i. refl };
  number = λ j. record { length = refl; number = λ i. refl; value = λ i. refl };
  value = λ j. record { length = refl; number = λ i. refl; value = λ i. refl };
})
logs_apart log.Tx log.Task = inr (record {
  length = record { length = refl; number = λ i. refl; value = λ i. refl };
  number = λ j. record { length = refl; number = λ i. refl; value = λ i. refl };
  value = λ j. record { length = refl; number = λ i. refl; value = λ i. refl };
})
logs_apart log.Tx log.Tx = inl refl
logs_apart log.Tx (log.Entry t) = inr (record {
  length = record { length = refl; number = λ i. refl; value = λ i. refl };
  number = λ j. record { length = refl; number = λ i. refl; value = λ i. refl };
  value = λ j. record { length = refl; number = λ i. refl; value = λ i. refl };
})
logs_apart (log.Entry s) log.Task = inr (record {
  length = record { length = refl; number = λ i. refl; value = λ i. refl };
  number = λ j. record { length = refl; number = λ i. refl; value = λ i. refl };
  value = λ j. record { length = refl; number = λ i. refl; value = λ i. refl };
})
logs_apart (log.Entry s) log.Tx = inr (record {
  length = record { length = refl; number = λ i. refl; value = λ i. refl };
  number = λ j. record { length = refl; number = λ i. refl; value = λ i. refl };
  value = λ j. record { length = refl; number = λ i. refl; value = λ i. refl };
})
logs_apart (log.Entry s) (log.Entry t) = elim (cases_eq s t) [
  | inl e ↦ inl (ap log.Entry e)
  | inr n ↦ inr (entries_apart s t n)
]
