-- Writes into the variables, of pairs that a commit is about to write.
use Rattle.std.proofs.Common.{◌≡◌, ◌≢◌, ℕ, ◌<◌, ◌==◌, refl, ap, sym, ◌∙◌, subst, inl, inr, [], Some, None, Option, if◌then◌else◌, is_some}
use Rattle.std.specs.Option.{unwrap_or}
use Rattle.nv_memory.specs.InRange.{InRange, IsClosed}
use Rattle.nv_memory.specs.State.{Change, State, first_undone, put, set_to}
use Rattle.nv_memory.specs.StandsFor.{applied_value, committed_word, unit_value}
use Rattle.nv_memory.specs.Words.{variable, variable_seat}
use Rattle.nv_memory.specs.Logs.{IsLog, LogSeats, index_in, length_in, number_in, pair_value_in, task_log, tx_log, value_in}
use Rattle.nv_memory.proofs.Frames.{range_after_free, variable_is_free}
use Rattle.nv_memory.proofs.Looks.{found_at, index_below, look_none, look_some, test_other}
use Rattle.tx_buffer.specs.Next.{changes_below}
use Rattle.tx_buffer.proofs.Undone.{done_at, head_done, head_split, undone_at}
use Rattle.commit_log.specs.Changes.{older_changes, variable_changes}
use Rattle.commit_log.specs.Laws.{Keeps}

-- the variables are what is committed
abbrev pub AreApplied : State → Type 0
AreApplied s = (word : ℕ) → variable s word ≡ committed_word s word

-- a word's variable becomes what is committed
pub record AppliesWord (s : State) (c : Change) : Type 0 where
  pub word : ℕ
  pub value : ℕ
  pub low : word < s.n
  pub committed : applied_value s word ≡ Some value
  pub differs : variable s word ≢ value
  pub is : c ≡ set_to (variable_seat word) value

unwrap_cases : (o : Option ℕ) (x y : ℕ) → (o ≡ None → x ≡ y) → unwrap_or o x ≡ unwrap_or o y
unwrap_cases None x y h = h refl
unwrap_cases (Some z) x y h = refl

word_kept : (s : State) (word value other : ℕ) → applied_value s word ≡ Some value
    → committed_word (put s (set_to (variable_seat word) value)) other ≡ committed_word s other
word_kept s word value other is =
    unwrap_cases (applied_value s other) (if other == word then value else variable s other) (variable s other)
    (λ none. rw (test_other other word (λ e. let some : applied_value s other ≡ Some value = ap (applied_value s) e ∙ is in absurd cc)) refl)

pub word_applied : (s : State) (c : Change) → InRange s → IsClosed s → AppliesWord s c → Keeps s (put s c)
word_applied s c r closed a = subst (λ (x : Change). Keeps s (put s x)) (sym a.is) (record {
  meaning = record { words = λ other. word_kept s a.word a.value other a.committed; place = refl; held = refl };
  range = range_after_free s (variable_seat a.word) a.value (variable_is_free a.word) r;
  places = λ tasks p. record { current = p.current; next = p.next; first = p.first };
  closed = record { empty = closed.empty; flags = closed.flags; doomed_mark = closed.doomed_mark; doomed_place = closed.doomed_place };
})

-- the word of a pair has its value in its log
pub pair_found : (s : State) (l : LogSeats) (i : ℕ) → IsLog s l → i < length_in s l → value_in s l (number_in s l i) ≡ Some (pair_value_in s l i)
pair_found s l i is low = found_at (number_in s l) (pair_value_in s l) (length_in s l) i is.once low

variable_head : (s : State) (l : LogSeats) (i : ℕ) (c : Change) → first_undone s (variable_changes s l i) ≡ Some c
    → (variable s (number_in s l i) ≢ pair_value_in s l i) × (set_to (variable_seat (number_in s l i)) (pair_value_in s l i) ≡ c)
variable_head s l i c e = elim (head_split s (set_to (variable_seat (number_in s l i)) (pair_value_in s l i)) c [] e) [
  | inl h ↦ (h.0, h.1)
  | inr h ↦ let no = h.1 in absurd cc
]

-- the next write of a log's pairs, where the log's words are being applied
pub applies_pair : (s : State) (l : LogSeats) (c : Change) → IsLog s l
    → ((i : ℕ) → i < length_in s l → applied_value s (number_in s l i) ≡ Some (pair_value_in s l i))
    → first_undone s (changes_below (variable_changes s l) (length_in s l)) ≡ Some c → AppliesWord s c
applies_pair s l c is applied e =
    let at = undone_at s (variable_changes s l) (length_in s l) c e in
    let head = variable_head s l at.i c at.here in
    record {
      word = number_in s l at.i;
      value = pair_value_in s l at.i;
      low = is.below at.i at.low;
      committed = applied at.i at.low;
      differs = head.0;
      is = sym head.1;
    }

older_head : (s : State) (i : ℕ) (c : Change) (o : Option ℕ) → index_in s task_log (number_in s tx_log i) ≡ o
    → first_undone s (if is_some o then [] else variable_changes s tx_log i) ≡ Some c
    → (value_in s task_log (number_in s tx_log i) ≡ None) × (variable s (number_in s tx_log i) ≢ pair_value_in s tx_log i)
    × (set_to (variable_seat (number_in s tx_log i)) (pair_value_in s tx_log i) ≡ c)
older_head s i c (Some at) is e = absurd cc
older_head s i c None is e =
    let head = variable_head s tx_log i c e in
    (look_none (number_in s task_log) (pair_value_in s task_log) (length_in s task_log) (number_in s tx_log i) is, head.0, head.1)

-- the next write of the transaction log's pairs, where a unit is being applied
pub applies_older : (s : State) (c : Change) → IsLog s tx_log → ((word : ℕ) → applied_value s word ≡ unit_value s word)
    → first_undone s (changes_below (older_changes s) (length_in s tx_log)) ≡ Some c → AppliesWord s c
applies_older s c is applied e =
    let at = undone_at s (older_changes s) (length_in s tx_log) c e in
    let head = older_head s at.i c (index_in s task_log (number_in s tx_log at.i)) refl at.here in
    record {
      word = number_in s tx_log at.i;
      value = pair_value_in s tx_log at.i;
      low = is.below at.i at.low;
      committed = applied (number_in s tx_log at.i) ∙ rw head.0 (pair_found s tx_log at.i is at.low);
      differs = head.1;
      is = sym head.2;
    }

-- where all pairs of a log stand, its words are applied
pub pair_stands : (s : State) (l : LogSeats) (i : ℕ) → first_undone s (changes_below (variable_changes s l) (length_in s l)) ≡ None
    → i < length_in s l → variable s (number_in s l i) ≡ pair_value_in s l i
pair_stands s l i e low =
    (head_done s (set_to (variable_seat (number_in s l i)) (pair_value_in s l i)) [] (done_at s (variable_changes s l) (length_in s l) e i low)).0

-- by where the word stands in the log
stands_step : (s : State) (l : LogSeats) (word : ℕ) (o : Option ℕ) → index_in s l word ≡ o
    → first_undone s (changes_below (variable_changes s l) (length_in s l)) ≡ None
    → (variable s word ≡ unwrap_or (value_in s l word) (variable s word))
stands_step s l word None is e = rw (look_none (number_in s l) (pair_value_in s l) (length_in s l) word is) refl
stands_step s l word (Some at) is e =
    let low = index_below (number_in s l) (length_in s l) word at is in
    let stands = pair_stands s l at e low.0 in
    rw (look_some (number_in s l) (pair_value_in s l) (length_in s l) word at is)
    (ap (variable s) (sym low.1) ∙ stands)

pub word_stands : (s : State) (l : LogSeats) (word : ℕ) → first_undone s (changes_below (variable_changes s l) (length_in s l)) ≡ None
    → variable s word ≡ unwrap_or (value_in s l word) (variable s word)
word_stands s l word e = stands_step s l word (index_in s l word) refl e

older_done : (s : State) (i : ℕ) (o : Option ℕ) → index_in s task_log (number_in s tx_log i) ≡ o → o ≡ None
    → first_undone s (if is_some o then [] else variable_changes s tx_log i) ≡ None → variable s (number_in s tx_log i) ≡ pair_value_in s tx_log i
older_done s i (Some at) is none e = absurd cc
older_done s i None is none e = (head_done s (set_to (variable_seat (number_in s tx_log i)) (pair_value_in s tx_log i)) [] e).0

older_step : (s : State) (word : ℕ) (o : Option ℕ) → index_in s tx_log word ≡ o → index_in s task_log word ≡ None
    → first_undone s (changes_below (older_changes s) (length_in s tx_log)) ≡ None
    → variable s word ≡ unwrap_or (value_in s tx_log word) (variable s word)
older_step s word None is none e = rw (look_none (number_in s tx_log) (pair_value_in s tx_log) (length_in s tx_log) word is) refl
older_step s word (Some at) is none e =
    let low = index_below (number_in s tx_log) (length_in s tx_log) word at is in
    let stands = older_done s at (index_in s task_log (number_in s tx_log at)) refl (ap (index_in s task_log) low.1 ∙ none)
    (done_at s (older_changes s) (length_in s tx_log) e at low.0) in
    rw (look_some (number_in s tx_log) (pair_value_in s tx_log) (length_in s tx_log) word at is) (ap (variable s) (sym low.1) ∙ stands)

unit_step : (s : State) (word : ℕ) (o : Option ℕ) → index_in s task_log word ≡ o
    → first_undone s (changes_below (older_changes s) (length_in s tx_log)) ≡ None
    → first_undone s (changes_below (variable_changes s task_log) (length_in s task_log)) ≡ None
    → variable s word ≡ unwrap_or (unit_value s word) (variable s word)
unit_step s word None is older newer =
    rw (look_none (number_in s task_log) (pair_value_in s task_log) (length_in s task_log) word is)
    (older_step s word (index_in s tx_log word) refl is older)
unit_step s word (Some at) is older newer =
    let found = look_some (number_in s task_log) (pair_value_in s task_log) (length_in s task_log) word at is in
    let stands = word_stands s task_log word newer in
    let here : variable s word ≡ pair_value_in s task_log at = rw found at stands in
    rw found here

pub unit_stands : (s : State) (word : ℕ) → first_undone s (changes_below (older_changes s) (length_in s tx_log)) ≡ None
    → first_undone s (changes_below (variable_changes s task_log) (length_in s task_log)) ≡ None
    → variable s word ≡ unwrap_or (unit_value s word) (variable s word)
unit_stands s word older newer = unit_step s word (index_in s task_log word) refl older newer
