-- An undo has ever fewer writes left.
use Rattle.std.proofs.Common.{◌≡◌, ◌↔◌, ℕ, zero, suc, ◌+◌, ◌<◌, ◌≤◌, ◌==◌, List, [], ◌∷◌, ◌++◌, length, refl, ap, sym, subst, ◌∙◌, arith, length-append, Some, None, Bool, true, false, if◌then◌else◌}
use Rattle.std.proofs.lemmas.Bool.Decides.{nat_tests}
use Rattle.nv_memory.specs.State.{Change, State, first_undone, is_done, is_same, put, set_to}
use Rattle.nv_memory.specs.Logs.{tx_log}
use Rattle.nv_memory.specs.Words.{current_seat, doomed, first, opened_seat, tx_flag_seat}
use Rattle.nv_memory.proofs.Seats.{is_itself}
use Rattle.tx_buffer.specs.Clear.{clear_changes, unflag_changes}
use Rattle.tx_buffer.specs.Next.{changes_below}
use Rattle.buffi_sets.specs.Undo.{UndosEnd, restart_changes, undo_changes, undo_left, undone_count}
use Rattle.buffi_sets.proofs.Undoing.{undo_kind}

-- those of several changes that are to the seat of one have its value
abbrev Agrees : Change → List Change → Type 0
Agrees change [] = Unit {0}
Agrees change (x ∷ xs) = (is_same x.seat change.seat ≡ true → x.value ≡ change.value) × Agrees change xs

agrees_both : (change : Change) (xs ys : List Change) → Agrees change xs → Agrees change ys → Agrees change (xs ++ ys)
agrees_both change [] ys a b = b
agrees_both change (x ∷ xs) ys a b = (a.0, agrees_both change xs ys a.1 b)

agrees_below : (change : Change) (f : ℕ → List Change) (n : ℕ) → ((i : ℕ) → Agrees change (f i)) → Agrees change (changes_below f n)
agrees_below change f zero a = tt
agrees_below change f (suc n) a = agrees_both change (changes_below f n) (f n) (agrees_below change f n a) (a n)

-- a change that stood still stands
done_step : (was value new : ℕ) (same : Bool) → (same ≡ true → value ≡ new) → (was == value) ≡ true → ((if same then new else was) == value) ≡ true
done_step was value new true a e = let is : value ≡ new = a refl in grind (arith, nat_tests)
done_step was value new false a e = e

count_step : (s : State) (change x : Change) (xs : List Change) (was : Bool) → is_done s x ≡ was
    → (is_done s x ≡ true → is_done (put s change) x ≡ true) → undone_count (put s change) xs ≤ undone_count s xs
    → undone_count (put s change) (x ∷ xs) ≤ (if was then undone_count s xs else suc (undone_count s xs))
count_step s change x xs true is stays more = rw (stays is) more
count_step s change x xs false is stays more = now_step (is_done (put s change) x)
  where
    now_step : (now : Bool) → (if now then undone_count (put s change) xs else suc (undone_count (put s change) xs)) ≤ suc (undone_count s xs)
    now_step true = omega (arith, more)
    now_step false = omega (arith, more)

count_kept : (s : State) (change : Change) (xs : List Change) → Agrees change xs → undone_count (put s change) xs ≤ undone_count s xs
count_kept s change [] a = omega arith
count_kept s change (x ∷ xs) a =
    count_step s change x xs (is_done s x) refl
    (done_step (s.at x.seat) x.value change.value (is_same x.seat change.seat) a.0)
    (count_kept s change xs a.1)

-- the first that doesn't stand is made
stands : (s : State) (change : Change) → is_done (put s change) change ≡ true
stands s change = rw (is_itself change.seat) (grind (arith, nat_tests))

fewer_step : (s : State) (change x : Change) (xs : List Change) (was : Bool) → is_done s x ≡ was
    → (is_done s x ≡ true → is_done (put s change) x ≡ true) → undone_count (put s change) xs ≤ undone_count s xs
    → (first_undone s xs ≡ Some change → undone_count (put s change) xs < undone_count s xs)
    → (if was then first_undone s xs else Some x) ≡ Some change
    → undone_count (put s change) (x ∷ xs) < (if was then undone_count s xs else suc (undone_count s xs))
fewer_step s change x xs true is stays kept more e = rw (stays is) (more e)
fewer_step s change x xs false is stays kept more e =
    let one : change ≡ x = cc in
    let now : is_done (put s change) x ≡ true = subst (λ (y : Change). is_done (put s change) y ≡ true) one (stands s change) in
    rw now (omega (arith, kept))

fewer : (s : State) (change : Change) (xs : List Change) → Agrees change xs → first_undone s xs ≡ Some change
    → undone_count (put s change) xs < undone_count s xs
fewer s change [] a e = absurd cc
fewer s change (x ∷ xs) a e =
    fewer_step s change x xs (is_done s x) refl
    (done_step (s.at x.seat) x.value change.value (is_same x.seat change.seat) a.0)
    (count_kept s change xs a.1) (fewer s change xs a.1) e

-- none is left exactly where all stand
none_step : (s : State) (x : Change) (xs : List Change) (b : Bool) → ((undone_count s xs ≡ 0) ↔ (first_undone s xs ≡ None))
    → ((if b then undone_count s xs else suc (undone_count s xs)) ≡ 0) ↔ ((if b then first_undone s xs else Some x) ≡ None)
none_step s x xs true more = more
none_step s x xs false more = (λ e. absurd (omega (arith, e)), λ e. absurd cc)

none_left : (s : State) (xs : List Change) → (undone_count s xs ≡ 0) ↔ (first_undone s xs ≡ None)
none_left s [] = (λ _. refl, λ _. refl)
none_left s (x ∷ xs) = none_step s x xs (is_done s x) (none_left s xs)

short_step : (s : State) (xs : List Change) (b : Bool) → undone_count s xs ≤ length xs
    → (if b then undone_count s xs else suc (undone_count s xs)) ≤ suc (length xs)
short_step s xs true more = omega (arith, more)
short_step s xs false more = omega (arith, more)

count_short : (s : State) (xs : List Change) → undone_count s xs ≤ length xs
count_short s [] = omega arith
count_short s (x ∷ xs) = short_step s xs (is_done s x) (count_short s xs)

-- the changes of an undo
unflags : (n : ℕ) → length (changes_below unflag_changes n) ≡ n
unflags zero = refl
unflags (suc n) = let e = unflags n in let both = length-append (changes_below unflag_changes n) (unflag_changes n) in omega (arith, e, both)

abbrev all_changes : State → List Change
all_changes s = clear_changes s ++ restart_changes s

all_few : (s : State) → length (all_changes s) ≡ s.n + 4
all_few s = let both = length-append (clear_changes s) (restart_changes s) in let e = unflags s.n in omega (arith, both, e)

few_step : (s : State) (b : Bool) → undone_count s (if b then all_changes s else []) ≤ s.n + 4
few_step s true = let short = count_short s (all_changes s) in let few = all_few s in omega (arith, short, few)
few_step s false = omega arith

-- a change to one seat agrees with all
abbrev Fits : State → Change → Type 0
Fits s change = Agrees change (all_changes s)

fits_length : (s : State) → Fits s (set_to tx_log.length 0)
fits_length s = (
  λ _. refl,
  agrees_both (set_to tx_log.length 0) (changes_below unflag_changes s.n) (restart_changes s)
      (agrees_below (set_to tx_log.length 0) unflag_changes s.n (λ i. (λ e. absurd cc, tt)))
      (λ e. absurd cc, (λ e. absurd cc, (λ e. absurd cc, tt))),
)

fits_flag : (s : State) (word : ℕ) → Fits s (set_to (tx_flag_seat word) 0)
fits_flag s word = (
  λ _. refl,
  agrees_both (set_to (tx_flag_seat word) 0) (changes_below unflag_changes s.n) (restart_changes s)
      (agrees_below (set_to (tx_flag_seat word) 0) unflag_changes s.n (λ i. (λ _. refl, tt)))
      (λ e. absurd cc, (λ e. absurd cc, (λ e. absurd cc, tt))),
)

fits_current : (s : State) → Fits s (set_to current_seat (first s))
fits_current s = (
  λ e. absurd cc,
  agrees_both (set_to current_seat (first s)) (changes_below unflag_changes s.n) (restart_changes s)
      (agrees_below (set_to current_seat (first s)) unflag_changes s.n (λ i. (λ e. absurd cc, tt)))
      (λ _. refl, (λ e. absurd cc, (λ e. absurd cc, tt))),
)

fits_opened : (s : State) → Fits s (set_to opened_seat 0)
fits_opened s = (
  λ e. absurd cc,
  agrees_both (set_to opened_seat 0) (changes_below unflag_changes s.n) (restart_changes s)
      (agrees_below (set_to opened_seat 0) unflag_changes s.n (λ i. (λ e. absurd cc, tt)))
      (λ e. absurd cc, (λ _. refl, (λ e. absurd cc, tt))),
)

some_left : (s : State) (change : Change) (xs : List Change) → first_undone s xs ≡ Some change → 0 < undone_count s xs
some_left s change xs e = none_or (undone_count s xs) refl
  where
    none_or : (n : ℕ) → undone_count s xs ≡ n → 0 < n
    none_or zero is = absurd (let none = (none_left s xs).0 is in cc)
    none_or (suc n) is = omega arith

-- while the transaction is doomed the changes stay the same
still : (s : State) (change : Change) → (doomed s == 1) ≡ true → first_undone s (all_changes s) ≡ Some change
    → doomed (put s change) ≡ doomed s → first (put s change) ≡ first s → Fits s change
    → undo_left (put s change) < undone_count s (all_changes s)
still s change is e doom at fits = rw (doom, is, at) (fewer s change (all_changes s) fits e)

falls_step : (s : State) (change : Change) (b : Bool) → (doomed s == 1) ≡ b → first_undone s (if b then all_changes s else []) ≡ Some change
    → undo_left (put s change) < undone_count s (if b then all_changes s else [])
falls_step s change false is e = absurd cc
falls_step s change true is e =
    undo_kind s change (λ c. c ≡ change → undo_left (put s c) < undone_count s (all_changes s))
    (λ q. still s (set_to tx_log.length 0) is (e ∙ ap Some (sym q)) refl refl (fits_length s))
    (λ word q. still s (set_to (tx_flag_seat word) 0) is (e ∙ ap Some (sym q)) refl refl (fits_flag s word))
    (λ q. still s (set_to current_seat (first s)) is (e ∙ ap Some (sym q)) refl refl (fits_current s))
    (λ _ _ _ q. still s (set_to opened_seat 0) is (e ∙ ap Some (sym q)) refl refl (fits_opened s))
    (λ q. some_left s change (all_changes s) e) e refl

pub undo_ends : UndosEnd
undo_ends s = record {
  falls = λ change e. falls_step s change (doomed s == 1) refl e;
  few = few_step s (doomed s == 1);
  none = none_left s (undo_changes s);
}
