-- A write of a merge leaves the unit's values and flags, and keeps the ranges.
use Rattle.std.proofs.Common.{◌≡◌, ◌≢◌, ℕ, ◌+◌, ◌<◌, ◌==◌, ◌||◌, refl, sym, ◌∙◌, subst, arith, inl, inr, Some, None, Option, Bool, true, false, if◌then◌else◌}
use Rattle.std.proofs.lemmas.Bool.{cases_eq}
use Rattle.nv_memory.specs.declared.log.Log.TheVariants as log
use Rattle.nv_memory.specs.Frames.{KeepsBeside}
use Rattle.nv_memory.specs.InRange.{InRange}
use Rattle.nv_memory.specs.State.{Change, State, first_undone, put, set_to}
use Rattle.nv_memory.specs.StandsFor.{first_value}
use Rattle.nv_memory.specs.Words.{attempt_flag, tx_flag, tx_flag_seat}
use Rattle.nv_memory.specs.Logs.{length_in, number_in, pair_value_in, task_log, tx_log, value_in}
use Rattle.nv_memory.proofs.Frames.{length_keeps_beside, number_keeps_beside, range_after_tx_flag, range_after_value, range_behind_number, range_longer, value_keeps_beside}
use Rattle.nv_memory.proofs.LogWrites.{apart_of, value_behind_number, value_behind_value, value_longer, value_replaced}
use Rattle.nv_memory.proofs.Looks.{look_none, none_at, test_other, test_same}
use Rattle.tx_buffer.specs.Merge.{merge_changes}
use Rattle.tx_buffer.specs.Keeps.{KeepsMerged, joined_flag}
use Rattle.tx_buffer.proofs.MergeWrites.{IsMergeWrite, joins, lengths, merge_write, numbers, renews, values}

pub first_cases : (o x y : Option ℕ) → (o ≡ None → x ≡ y) → first_value o x ≡ first_value o y
first_cases None x y h = h refl
first_cases (Some z) x y h = refl

-- a word that the task log lacks is none of its pairs'
other_word : (s : State) (i other : ℕ) → i < length_in s task_log → value_in s task_log other ≡ None → number_in s task_log i ≢ other
other_word s i other l none = none_at (number_in s task_log) (pair_value_in s task_log) (length_in s task_log) other none i l

-- a write to the transaction log, of which words that the task log lacks are as before
log_write : (s : State) (c : Change) → KeepsBeside log.Tx s (put s c)
    → ((other : ℕ) → value_in s task_log other ≡ None → value_in (put s c) tx_log other ≡ value_in s tx_log other)
    → InRange (put s c) → KeepsMerged s (put s c)
log_write s c beside same range = record {
  values = λ word. rw (beside.logs log.Task (λ e. absurd cc) word)
      (first_cases (value_in s task_log word) (value_in (put s c) tx_log word) (value_in s tx_log word) (same word));
  flags = λ word. rw (beside.tx_flags word, beside.attempt_flags word) refl;
  range = range;
}

-- where the word isn't the one that is written
not_the_word : (s : State) (i other : ℕ) (a b : Option ℕ) → i < length_in s task_log → value_in s task_log other ≡ None
    → (if number_in s task_log i == other then a else b) ≡ b
not_the_word s i other a b l none = rw (test_other (number_in s task_log i) other (other_word s i other l none)) refl

or_true : (b : Bool) → (b || true) ≡ true
or_true true = refl
or_true false = refl

flag_joins : (s : State) (word other : ℕ) → attempt_flag s word ≡ true
    → joined_flag (put s (set_to (tx_flag_seat word) 1)) other ≡ joined_flag s other
flag_joins s word other set = elim (cases_eq other word) [
  | inl e ↦ rw (e, test_same word word refl, set) (sym (or_true (tx_flag s word)))
  | inr n ↦ rw (test_other other word n) refl
]

module _ (s : State) (r : InRange s) where
  pub write_keeps : (c : Change) → IsMergeWrite s c → KeepsMerged s (put s c)
  write_keeps c (renews i at first is n e) =
      let value = pair_value_in s task_log i in
      subst (λ (x : Change). KeepsMerged s (put s x)) (sym e)
      (log_write s (set_to (tx_log.value at) value) (value_keeps_beside s log.Tx at value)
      (λ other none. value_replaced s tx_log (apart_of log.Tx) at (number_in s task_log i) value other is ∙ not_the_word s i other _ _ first.low none)
      (range_after_value s log.Tx at value r))
  write_keeps c (numbers i first absent n e) =
      let word = number_in s task_log i in
      let end = length_in s tx_log in
      subst (λ (x : Change). KeepsMerged s (put s x)) (sym e)
      (log_write s (set_to (tx_log.number end) word) (number_keeps_beside s log.Tx end word)
      (λ other none. value_behind_number s tx_log (apart_of log.Tx) end word other (omega arith))
      (range_behind_number s log.Tx end word (omega arith) r))
  write_keeps c (values i first absent named n e) =
      let value = pair_value_in s task_log i in
      let end = length_in s tx_log in
      subst (λ (x : Change). KeepsMerged s (put s x)) (sym e)
      (log_write s (set_to (tx_log.value end) value) (value_keeps_beside s log.Tx end value)
      (λ other none. value_behind_value s tx_log (apart_of log.Tx) end value other (omega arith))
      (range_after_value s log.Tx end value r))
  write_keeps c (lengths i first absent named valued e) =
      let word = number_in s task_log i in
      let end = length_in s tx_log in
      let none = look_none (number_in s tx_log) (pair_value_in s tx_log) end word absent in
      let low = (r.logs log.Task tt).below i first.low in
      subst (λ (x : Change). KeepsMerged s (put s x)) (sym e)
      (log_write s (set_to tx_log.length (end + 1)) (length_keeps_beside s log.Tx (end + 1))
      (λ other lacks. value_longer s tx_log (apart_of log.Tx) word (pair_value_in s task_log i) other named valued ∙ not_the_word s i other _ _ first.low lacks)
      (range_longer s log.Tx word low none named r))
  write_keeps c (joins word before l set n e) =
      subst (λ (x : Change). KeepsMerged s (put s x)) (sym e)
      (record {
        values = λ other. refl;
        flags = λ other. flag_joins s word other set;
        range = range_after_tx_flag s word 1 (omega arith) r;
      })

pub merges_keep : (s : State) (c : Change) → InRange s → first_undone s (merge_changes s) ≡ Some c → KeepsMerged s (put s c)
merges_keep s c r e = write_keeps s r c (merge_write s c e)
