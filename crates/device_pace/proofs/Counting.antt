-- What the counts of the code are.
use Rattle.std.proofs.Common.{◌≡◌, ◌==◌, ℕ, zero, suc, ◌+◌, ◌-◌, ◌<◌, refl, ap, ◌∙◌, arith, List, [], ◌∷◌, ◌++◌, Option, Some, None, is_none, Bool, true, false, if◌then◌else◌}
use Rattle.nv_memory.specs.InRange.{InRange}
use Rattle.nv_memory.specs.Logs.{index_in, length_in, number_in, task_log, tx_log}
use Rattle.nv_memory.specs.State.{Change, State, is_done, set_to}
use Rattle.nv_memory.specs.Words.{current_seat, doomed, doomed_seat, first, opened_seat, tx_flag_seat}
use Rattle.tx_buffer.specs.Clear.{clear_changes, unflag_changes}
use Rattle.tx_buffer.specs.Next.{changes_below}
use Rattle.buffi_sets.specs.Undo.{restart_changes, undo_left, undone_count}
use Rattle.commit_log.specs.Left.{begun_at, begun_from, begun_pair, flagged, sum_below, undone}

-- the count of an undo is the sum of what its changes count
more_by : (rest : ℕ) (b : Bool) →
    (if b then rest else suc rest) ≡ (if b then 0 else 1) + rest
more_by rest true = omega arith
more_by rest false = omega arith

count_more : (s : State) (change : Change) (changes : List Change) →
    undone_count s (change ∷ changes) ≡ undone s change + undone_count s changes
count_more s change changes = more_by (undone_count s changes) (is_done s change)

count_both : (s : State) (xs ys : List Change) →
    undone_count s (xs ++ ys) ≡ undone_count s xs + undone_count s ys
count_both s [] ys = omega arith
count_both s (x ∷ xs) ys =
    let here = count_more s x (xs ++ ys) in
    let alone = count_more s x xs in
    let more = count_both s xs ys in
    omega (arith, here, alone, more)

count_one : (s : State) (change : Change) → undone_count s (change ∷ []) ≡ undone s change
count_one s change = let is = count_more s change [] in omega (arith, is)

-- a flag is 0 or 1
abbrev not_zero : ℕ → ℕ
not_zero n = if n == 0 then 0 else 1

abbrev is_one : ℕ → ℕ
is_one n = if n == 1 then 1 else 0

flag_by : (n : ℕ) → n < 2 → not_zero n ≡ is_one n
flag_by zero low = refl
flag_by (suc zero) low = refl
flag_by (suc (suc n)) low = absurd (omega (arith, low))

count_flags : (s : State) (n : ℕ) → ((word : ℕ) → word < n → s.at (tx_flag_seat word) < 2) →
    undone_count s (changes_below unflag_changes n) ≡ sum_below (flagged s) n
count_flags s zero low = refl
count_flags s (suc n) low =
    let both = count_both s (changes_below unflag_changes n) (unflag_changes n) in
    let one = count_one s (set_to (tx_flag_seat n) 0) in
    let here = flag_by (s.at (tx_flag_seat n)) (low n (omega arith)) in
    let more = count_flags s n (λ word l. low word (omega (arith, l))) in
    omega (arith, both, one, here, more)

abbrev undo_parts : State → ℕ
undo_parts s =
    undone s (set_to tx_log.length 0)
    + sum_below (flagged s) s.n
    + undone s (set_to current_seat (first s))
    + undone s (set_to opened_seat 0)
    + undone s (set_to doomed_seat 0)

count_undo : (s : State) → InRange s →
    undone_count s (clear_changes s ++ restart_changes s) ≡ undo_parts s
count_undo s range =
    let both = count_both s (clear_changes s) (restart_changes s) in
    let log = count_more s (set_to tx_log.length 0) (changes_below unflag_changes s.n) in
    let flags = count_flags s s.n range.tx_flags in
    let back = count_more s (set_to current_seat (first s))
    (set_to opened_seat 0 ∷ set_to doomed_seat 0 ∷ []) in
    let closed = count_more s (set_to opened_seat 0) (set_to doomed_seat 0 ∷ []) in
    let spared = count_one s (set_to doomed_seat 0) in
    omega (arith, both, log, flags, back, closed, spared)

pub undo_is : (s : State) → InRange s → (doomed s == 1) ≡ true → undo_left s ≡ undo_parts s
undo_is s range is =
    ap (λ (b : Bool). undone_count s (if b then clear_changes s ++ restart_changes s else [])) is
    ∙ count_undo s range

pub no_undo : (s : State) → (doomed s == 1) ≡ false → undo_left s ≡ 0
no_undo s is =
    ap (λ (b : Bool). undone_count s (if b then clear_changes s ++ restart_changes s else [])) is

-- the walk over the task log ends at the first pair that the transaction log lacks
begun_step : (s : State) (i : ℕ) → i < length_in s task_log →
    begun_from s i (length_in s task_log - i)
    ≡ begun_at s i (begun_from s (i + 1) (length_in s task_log - (i + 1)))
    (index_in s tx_log (number_in s task_log i))
begun_step s i low =
    let one : length_in s task_log - i ≡ suc (length_in s task_log - (i + 1)) =
    omega (arith, low) in
    let next : i + 1 ≡ suc i = omega arith in
    rw (one, next) refl

goes_on : (s : State) (i rest : ℕ) (o : Option ℕ) → is_none o ≡ false →
    begun_at s i rest o ≡ rest
goes_on s i rest None there = absurd cc
goes_on s i rest (Some at) there = refl

pub begun_behind : (s : State) (i : ℕ) → i < length_in s task_log →
    is_none (index_in s tx_log (number_in s task_log i)) ≡ false →
    begun_from s i (length_in s task_log - i)
    ≡ begun_from s (i + 1) (length_in s task_log - (i + 1))
begun_behind s i low there =
    begun_step s i low
    ∙ goes_on s i (begun_from s (i + 1) (length_in s task_log - (i + 1)))
    (index_in s tx_log (number_in s task_log i)) there

pub begun_here : (s : State) (i : ℕ) → i < length_in s task_log →
    index_in s tx_log (number_in s task_log i) ≡ None →
    begun_from s i (length_in s task_log - i) ≡ begun_pair s i
begun_here s i low none =
    begun_step s i low
    ∙ ap (begun_at s i (begun_from s (i + 1) (length_in s task_log - (i + 1)))) none

pub begun_no_more : (s : State) (i : ℕ) → i ≡ length_in s task_log →
    begun_from s i (length_in s task_log - i) ≡ 0
begun_no_more s i is =
    let none : length_in s task_log - i ≡ 0 = omega (arith, is) in rw none refl
