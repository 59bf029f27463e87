-- The writes that empty a log and take back flags, before a task starts.
use Rattle.std.proofs.Common.{◌≡◌, ◌==◌, ℕ, ◌+◌, ◌<◌, ◌≤◌, refl, sym, subst, arith, Some, Bool, true, false, [], ◌∷◌, if◌then◌else◌}
use Rattle.std.proofs.lemmas.Bool.Decides.{nat_tests}
use Rattle.task_syntax.specs.declared.program.Program.{Program}
use Rattle.task_syntax.specs.Names.{word_count}
use Rattle.nv_memory.specs.declared.log.Log.TheVariants as log
use Rattle.nv_memory.specs.InRange.{InRange}
use Rattle.nv_memory.specs.Logs.{log_length, task_log}
use Rattle.nv_memory.specs.State.{Change, State, first_undone, is_done, put, set_to}
use Rattle.nv_memory.specs.Words.{attempt_flag, attempt_flag_seat, mode}
use Rattle.nv_memory.proofs.Looks.{test_other, test_same}
use Rattle.buffi_sets.specs.Flags.{unflag_attempt_changes, unflag_change}
use Rattle.tx_buffer.proofs.Undone.{undone_at}
use Rattle.commit_log.specs.Left.{sum_below}
use Rattle.commit_log.proofs.Sums.{sum_less}
use Rattle.coati_pace.specs.Effort.{cleaning_writes, shape_of}
use Rattle.device_pace.specs.Effort.{cleaning_of, flag_left, flag_writes, log_writes}
use Rattle.device_pace.proofs.Ranges.{few_cleaning}

pub cleaning_within : (program : Program) (s : State) → s.n ≡ word_count program.vars →
    cleaning_of s ≤ cleaning_writes (shape_of program)
cleaning_within program s words = let few = few_cleaning s in omega (arith, words, few)

abbrev pub empty_log : Change
empty_log = set_to task_log.length 0

abbrev write_unless : Bool → ℕ
write_unless b = if b then 0 else 1

some_by : (n : ℕ) → 0 < n → write_unless (n == 0) ≡ 1
some_by n some = let test : (n == 0) ≡ false = grind (arith, nat_tests) in rw test refl

-- the log is emptied
pub empties_lower : (s : State) → 0 < log_length s log.Task →
    cleaning_of (put s empty_log) < cleaning_of s
empties_lower s some =
    let before = some_by (log_length s log.Task) some in
    let after : log_writes (put s empty_log) ≡ 0 = refl in
    let flags : flag_writes (put s empty_log) ≡ flag_writes s = refl in
    omega (arith, before, after, flags)

-- the first change of one is that one, and doesn't stand
of_one : (s : State) (change one : Change) →
    first_undone s (one ∷ []) ≡ Some change → (change ≡ one) × (is_done s one ≡ false)
of_one s change one next = by (is_done s one) refl next
  where
    by : (b : Bool) → is_done s one ≡ b →
        (if b then first_undone s [] else Some one) ≡ Some change →
        (change ≡ one) × (is_done s one ≡ false)
    by true is next = absurd cc
    by false is next = let same : one ≡ change = cc in (sym same, is)

set_flag : (word : ℕ) → word < 2 → (word == 0) ≡ false → (word == 1) ≡ true
set_flag word low is = grind (arith, nat_tests)

buffi_flags : (s : State) → mode s ≡ 1 → flag_writes s ≡ sum_below (flag_left s) s.n
buffi_flags s buffi = rw buffi refl

-- one flag less is set
one_less : (s : State) (word : ℕ) → word < s.n → attempt_flag s word ≡ true →
    sum_below (flag_left (put s (unflag_change word))) s.n + 1 ≡ sum_below (flag_left s) s.n
one_less s word low set =
    sum_less (flag_left s) (flag_left (put s (unflag_change word))) s.n word 1 low
    (rw set (rw (test_same word word refl) refl))
    (λ other within differs. rw (test_other other word differs) refl)

taken_back : (s : State) (word : ℕ) → mode s ≡ 1 → word < s.n → attempt_flag s word ≡ true →
    cleaning_of (put s (unflag_change word)) < cleaning_of s
taken_back s word buffi low set =
    let t = put s (unflag_change word) in
    let before = buffi_flags s buffi in
    let after = buffi_flags t buffi in
    let less = one_less s word low set in
    let log : log_writes t ≡ log_writes s = refl in
    omega (arith, before, after, less, log)

-- a flag is taken back
pub unflags_lower : (s : State) (change : Change) → InRange s → mode s ≡ 1 →
    first_undone s (unflag_attempt_changes s) ≡ Some change →
    cleaning_of (put s change) < cleaning_of s
unflags_lower s change range buffi next =
    let at = undone_at s (λ word. unflag_change word ∷ []) s.n change next in
    let one = of_one s change (unflag_change at.i) at.here in
    let set : attempt_flag s at.i ≡ true =
    set_flag (s.at (attempt_flag_seat at.i)) (range.attempt_flags at.i at.low) one.1 in
    subst (λ (c : Change). cleaning_of (put s c) < cleaning_of s) (sym one.0)
    (taken_back s at.i buffi at.low set)
