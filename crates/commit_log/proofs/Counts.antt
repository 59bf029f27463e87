-- How many writes are left of a unit's and of an event's commit.
use Rattle.std.proofs.Common.{◌≡◌, ◌≢◌, ℕ, ◌+◌, ◌*◌, ◌<◌, ◌≤◌, ◌==◌, refl, ap, sym, subst, arith, Option, Bool, true, false, if◌then◌else◌}
use Rattle.std.specs.Option.{unwrap_or}
use Rattle.std.proofs.lemmas.Bool.Decides.{nat_tests}
use Rattle.nv_memory.specs.InRange.{InRange}
use Rattle.nv_memory.specs.StandsFor.{committed_word}
use Rattle.nv_memory.specs.State.{Change, State, is_done, put, set_to}
use Rattle.nv_memory.specs.Words.{current_seat, head_next, head_seat, mark, mark_seat, next, opened_seat, tx_flag, tx_flag_seat, variable, variable_seat}
use Rattle.nv_memory.specs.Logs.{task_log, tx_log}
use Rattle.nv_memory.proofs.Looks.{test_other, test_same}
use Rattle.commit_log.specs.Laws.{Keeps}
use Rattle.commit_log.specs.Left.{event_left, flagged, sum_below, unapplied, undone, unit_left, writes_left}
use Rattle.commit_log.proofs.Applying.{IsUnitWrite, applies, arrives, clears, closes, drops_task, drops_tx, unflags}
use Rattle.commit_log.proofs.Pairs.{AppliesWord}
use Rattle.commit_log.proofs.Sums.{sum_bound, sum_less, sum_same}
use Rattle.commit_log.proofs.Taking.{IsEventWrite, frees, lands, rests}

-- a change that stands is none of those left, one that doesn't is one
pub undone_none : (s : State) (c : Change) → s.at c.seat ≡ c.value → undone s c ≡ 0
undone_none s c e = rw (test_same (s.at c.seat) c.value e) refl

pub undone_one : (s : State) (c : Change) → s.at c.seat ≢ c.value → undone s c ≡ 1
undone_one s c n = rw (test_other (s.at c.seat) c.value n) refl

bit_low : (b : Bool) → (if b then 0 else 1) ≤ 1
bit_low true = omega arith
bit_low false = omega arith

pub undone_low : (s : State) (c : Change) → undone s c ≤ 1
undone_low s c = bit_low (is_done s c)

unapplied_low : (s : State) (word : ℕ) → unapplied s word ≤ 1
unapplied_low s word = bit_low (variable s word == committed_word s word)

flag_low : (b : Bool) → (if b then 1 else 0) ≤ 1
flag_low true = omega arith
flag_low false = omega arith

flagged_low : (s : State) (word : ℕ) → flagged s word ≤ 1
flagged_low s word = flag_low (tx_flag s word)

-- a word is applied
pub word_less : (s : State) (c : Change) → AppliesWord s c → ((word : ℕ) → committed_word (put s c) word ≡ committed_word s word)
    → sum_below (unapplied (put s c)) s.n + 1 ≡ sum_below (unapplied s) s.n
word_less s c a keeps =
    let t = put s (set_to (variable_seat a.word) a.value) in
    let kept = subst (λ (x : Change). (word : ℕ) → committed_word (put s x) word ≡ committed_word s word) a.is keeps in
    let is : committed_word s a.word ≡ a.value = ap (λ (o : Option ℕ). unwrap_or o (variable s a.word)) a.committed in
    subst (λ (x : Change). sum_below (unapplied (put s x)) s.n + 1 ≡ sum_below (unapplied s) s.n) (sym a.is)
    (sum_less (unapplied s) (unapplied t) s.n a.word 1 a.low
    (let before : unapplied s a.word ≡ 1 = rw is (rw (test_other (variable s a.word) a.value a.differs) refl) in
    let after : unapplied t a.word ≡ 0 = rw (kept a.word, is) (rw (test_same a.word a.word refl) (rw (test_same a.value a.value refl) refl)) in
    omega (arith, before, after))
    (λ other l n. rw (kept other) (rw (test_other other a.word n) refl)))

-- words as they were, and committed as they were
pub words_same : (s t : State) → ((word : ℕ) → variable t word ≡ variable s word) → ((word : ℕ) → committed_word t word ≡ committed_word s word)
    → sum_below (unapplied t) s.n ≡ sum_below (unapplied s) s.n
words_same s t same keeps = sum_same (unapplied s) (unapplied t) s.n (λ word l. rw (keeps word, same word) refl)

-- a flag is taken back
flag_less : (s : State) (word : ℕ) → word < s.n → tx_flag s word ≡ true
    → sum_below (flagged (put s (set_to (tx_flag_seat word) 0))) s.n + 1 ≡ sum_below (flagged s) s.n
flag_less s word l set =
    sum_less (flagged s) (flagged (put s (set_to (tx_flag_seat word) 0))) s.n word 1 l
    (rw set (rw (test_same word word refl) refl))
    (λ other h n. rw (test_other other word n) refl)

-- of which commit, by the marker
pub left_unit : (s : State) → mark s ≡ 2 → writes_left s ≡ unit_left s
left_unit s two = rw two refl

pub left_event : (s : State) → mark s ≡ 3 → writes_left s ≡ event_left s
left_event s three = rw three refl

pub left_clear : (s : State) → mark s ≡ 0 → writes_left s ≡ 0
left_clear s clear = rw clear refl

-- a write of a unit's commit leaves fewer
pub unit_goes_on : (s : State) (c : Change) → InRange s → mark s ≡ 2 → IsUnitWrite s c → Keeps s (put s c) → writes_left (put s c) < writes_left s
unit_goes_on s c r two (applies a) keeps =
    let less = word_less s c a keeps.meaning.words in
    let t = put s (set_to (variable_seat a.word) a.value) in
    let more : writes_left t ≡ unit_left t = left_unit t two in
    let was = left_unit s two in
    let fewer = subst (λ (x : Change). sum_below (unapplied (put s x)) s.n + 1 ≡ sum_below (unapplied s) s.n) a.is less in
    subst (λ (x : Change). writes_left (put s x) < writes_left s) (sym a.is) (omega (arith, more, was, fewer))
unit_goes_on s c r two (drops_tx applied n e) keeps =
    let t = put s (set_to tx_log.length 0) in
    let kept = subst (λ (x : Change). Keeps s (put s x)) e keeps in
    let same = words_same s t (λ word. refl) kept.meaning.words in
    let one = undone_one s (set_to tx_log.length 0) n in
    let is = left_unit t two in
    let was = left_unit s two in
    subst (λ (x : Change). writes_left (put s x) < writes_left s) (sym e) (omega (arith, is, was, same, one))
unit_goes_on s c r two (drops_task applied empty n e) keeps =
    let t = put s (set_to task_log.length 0) in
    let kept = subst (λ (x : Change). Keeps s (put s x)) e keeps in
    let same = words_same s t (λ word. refl) kept.meaning.words in
    let one = undone_one s (set_to task_log.length 0) n in
    let is = left_unit t two in
    let was = left_unit s two in
    subst (λ (x : Change). writes_left (put s x) < writes_left s) (sym e) (omega (arith, is, was, same, one))
unit_goes_on s c r two (unflags word empty l n e) keeps =
    let t = put s (set_to (tx_flag_seat word) 0) in
    let kept = subst (λ (x : Change). Keeps s (put s x)) e keeps in
    let same = words_same s t (λ word. refl) kept.meaning.words in
    let low = r.tx_flags word l in
    let set : tx_flag s word ≡ true = grind (arith, nat_tests) in
    let less = flag_less s word l set in
    let is = left_unit t two in
    let was = left_unit s two in
    subst (λ (x : Change). writes_left (put s x) < writes_left s) (sym e) (omega (arith, is, was, same, less))
unit_goes_on s c r two (closes empty flags n e) keeps =
    let t = put s (set_to opened_seat 0) in
    let kept = subst (λ (x : Change). Keeps s (put s x)) e keeps in
    let same = words_same s t (λ word. refl) kept.meaning.words in
    let one = undone_one s (set_to opened_seat 0) n in
    let is = left_unit t two in
    let was = left_unit s two in
    subst (λ (x : Change). writes_left (put s x) < writes_left s) (sym e) (omega (arith, is, was, same, one))
unit_goes_on s c r two (arrives empty flags o n e) keeps =
    let t = put s (set_to current_seat (next s)) in
    let kept = subst (λ (x : Change). Keeps s (put s x)) e keeps in
    let same = words_same s t (λ word. refl) kept.meaning.words in
    let one = undone_one s (set_to current_seat (next s)) n in
    let none = undone_none t (set_to current_seat (next s)) refl in
    let is = left_unit t two in
    let was = left_unit s two in
    subst (λ (x : Change). writes_left (put s x) < writes_left s) (sym e) (omega (arith, is, was, same, one, none))
unit_goes_on s c r two (clears empty flags o same e) keeps =
    let t = put s (set_to mark_seat 0) in
    let none = left_clear t refl in
    let was = left_unit s two in
    subst (λ (x : Change). writes_left (put s x) < writes_left s) (sym e) (omega (arith, none, was))

-- a write of an event's commit leaves fewer
pub event_goes_on : (s : State) (c : Change) → mark s ≡ 3 → IsEventWrite s c → Keeps s (put s c) → writes_left (put s c) < writes_left s
event_goes_on s c three (lands a) keeps =
    let less = word_less s c a keeps.meaning.words in
    let t = put s (set_to (variable_seat a.word) a.value) in
    let fewer = subst (λ (x : Change). sum_below (unapplied (put s x)) s.n + 1 ≡ sum_below (unapplied s) s.n) a.is less in
    let is = left_event t three in
    let was = left_event s three in
    subst (λ (x : Change). writes_left (put s x) < writes_left s) (sym a.is) (omega (arith, is, was, fewer))
event_goes_on s c three (frees applied n e) keeps =
    let t = put s (set_to head_seat (head_next s)) in
    let kept = subst (λ (x : Change). Keeps s (put s x)) e keeps in
    let same = words_same s t (λ word. refl) kept.meaning.words in
    let one = undone_one s (set_to head_seat (head_next s)) n in
    let none = undone_none t (set_to head_seat (head_next s)) refl in
    let is = left_event t three in
    let was = left_event s three in
    subst (λ (x : Change). writes_left (put s x) < writes_left s) (sym e) (omega (arith, is, was, same, one, none))
event_goes_on s c three (rests same e) keeps =
    let t = put s (set_to mark_seat 0) in
    let none = left_clear t refl in
    let was = left_event s three in
    subst (λ (x : Change). writes_left (put s x) < writes_left s) (sym e) (omega (arith, none, was))

-- few are left at most
pub unit_few : (s : State) → unit_left s ≤ 2 * s.n + 5
unit_few s =
    let words = sum_bound (unapplied s) s.n 1 (unapplied_low s) in
    let flags = sum_bound (flagged s) s.n 1 (flagged_low s) in
    let a = undone_low s (set_to tx_log.length 0) in
    let b = undone_low s (set_to task_log.length 0) in
    let c = undone_low s (set_to opened_seat 0) in
    let d = undone_low s (set_to current_seat (next s)) in
    omega (arith, words, flags, a, b, c, d)

pub event_few : (s : State) → event_left s ≤ s.n + 2
event_few s =
    let words = sum_bound (unapplied s) s.n 1 (unapplied_low s) in
    let a = undone_low s (set_to head_seat (head_next s)) in
    omega (arith, words, a)
