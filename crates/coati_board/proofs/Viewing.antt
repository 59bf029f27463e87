-- Loads and parts of stores, as the running task sees them.
use Rattle.std.proofs.Common.{◌≡◌, ℕ, zero, suc, ◌+◌, ◌<◌, ◌==◌, refl, sym, ap, subst, ◌∙◌, arith, Bool, true, false, if◌then◌else◌, Some, Option, length, get_or, set}
use Rattle.std.specs.Prelude.{slice_index, slice_set, ◌&&◌}
use Rattle.std.specs.Option.{unwrap_or}
use Rattle.nv_memory.specs.declared.log.Log.TheVariants as log
use Rattle.nv_memory.specs.InRange.{InRange}
use Rattle.nv_memory.specs.Logs.{log_value}
use Rattle.nv_memory.specs.Seats.{Memory}
use Rattle.nv_memory.specs.StandsFor.{first_value}
use Rattle.nv_memory.specs.State.{State, put, state}
use Rattle.nv_memory.specs.Words.{variable}
use Rattle.nv_memory.proofs.Frames.{range_after_attempt_flag}
use Rattle.nv_memory.proofs.Looks.{test_other, test_same}
use Rattle.buffi_sets.specs.Flags.{flag_change}
use Rattle.task_buffer.specs.StoreLaws.{Stores}
use Rattle.task_buffer.specs.Stores.{IsBegun, store_change, store_ends}
use Rattle.task_buffer.proofs.Stores.{stores_set}
use Rattle.coati_device.specs.TaskView.{task_word, task_words, values_from}

pub values_length : (f : ℕ → ℕ) (at n : ℕ) → length (values_from f at n) ≡ n
values_length f at zero = refl
values_length f at (suc n) = ap suc (values_length f (suc at) n)

pub value_at_index : (f : ℕ → ℕ) (at n i : ℕ) → i < n →
    get_or (values_from f at n) i 0 ≡ f (at + i)
value_at_index f at zero i low = absurd (omega arith)
value_at_index f at (suc n) zero low = ap f (omega arith)
value_at_index f at (suc n) (suc i) low =
    value_at_index f (suc at) n i (omega arith) ∙ ap f (omega arith)

pub same_values : (f g : ℕ → ℕ) → ((i : ℕ) → f i ≡ g i) → (at n : ℕ) →
    values_from f at n ≡ values_from g at n
same_values f g same at zero = refl
same_values f g same at (suc n) = rw (same at, same_values f g same (suc at) n) refl

values_beyond : (f : ℕ → ℕ) (value word at n : ℕ) → word < at →
    values_from (λ i. if word == i then value else f i) at n ≡ values_from f at n
values_beyond f value word at zero low = refl
values_beyond f value word at (suc n) low =
    rw (test_other word at (omega arith), values_beyond f value word (suc at) n (omega arith)) refl

pub values_set : (f : ℕ → ℕ) (value at n i word : ℕ) → i < n → word ≡ at + i →
    values_from (λ j. if word == j then value else f j) at n ≡ set (values_from f at n) i value
values_set f value at zero i word low e = absurd (omega arith)
values_set f value at (suc n) zero word low e =
    rw (test_same word at (omega arith), values_beyond f value word (suc at) n (omega arith)) refl
values_set f value at (suc n) (suc i) word low e =
    rw (
      test_other word at (omega arith),
      values_set f value (suc at) n i word (omega arith)
          (omega arith),
    ) refl

pub word_below : (m : Memory) (word : ℕ) → word < length (task_words m) → word < m.n
word_below m word low = rw (values_length (task_word (state m)) 0 m.n) at low

pub words_count : (m : Memory) → length (task_words m) ≡ m.n
words_count m = values_length (task_word (state m)) 0 m.n

pub word_at : (m : Memory) (word : ℕ) → word < length (task_words m) →
    slice_index (task_words m) word ≡ task_word (state m) word
word_at m word low =
    value_at_index (task_word (state m)) 0 m.n word (word_below m word low)
    ∙ ap (task_word (state m)) (omega arith)

-- a flag is none of the words
pub words_beside_flag : (old new : Memory) (word : ℕ) →
    state new ≡ put (state old) (flag_change word) → task_words new ≡ task_words old
words_beside_flag old new word e =
    same_words (state new) e
  where
    same_words : (t : State) → t ≡ put (state old) (flag_change word) →
        values_from (task_word t) 0 t.n ≡ task_words old
    same_words t e =
        subst (λ (u : State). values_from (task_word u) 0 u.n ≡ task_words old) (sym e) refl

pub range_beside_flag : (old new : Memory) (word : ℕ) →
    state new ≡ put (state old) (flag_change word) → InRange (state old) → InRange (state new)
range_beside_flag old new word e range =
    subst InRange (sym e) (range_after_attempt_flag (state old) word 1 (omega arith) range)

seen_step : (b : Bool) (value under : ℕ) (own other : Option ℕ) →
    unwrap_or (first_value (if b then Some value else own) other)
    under ≡ (if b then value else unwrap_or (first_value own other) under)
seen_step true value under own other = refl
seen_step false value under own other = refl

module _ (old new : Memory) (word value part : ℕ) (is_last : Bool)
    (made : Stores log.Task word value part is_last (state old) (state new)) where
  word_after : (other : ℕ) →
      task_word (state new) other ≡ (if is_last && (word == other) then value else task_word
      (state old) other)
  word_after other =
      rw (
        made.log_after other,
        made.beside.logs log.Tx (λ e. absurd cc) other,
        made.beside.variables other,
      )
      (seen_step (is_last && (word == other)) value (variable (state old) other)
      (log_value (state old) log.Task other) (log_value (state old) log.Tx other))

  pub words_stored : is_last ≡ true → word < old.n → task_words new ≡ slice_set (task_words old)
      word value
  words_stored last low =
      ap (values_from (task_word (state new)) 0) made.beside.words
      ∙ (same_values (task_word (state new))
      (λ other. if word == other then value else task_word (state old) other)
      (λ other. word_after other
      ∙ ap (λ (b : Bool). if b && (word == other) then value else task_word (state old) other)
      last) 0 old.n
      ∙ values_set (task_word (state old)) value 0 old.n word word low (omega arith))

  pub words_kept : is_last ≡ false → task_words new ≡ task_words old
  words_kept last =
      ap (values_from (task_word (state new)) 0) made.beside.words
      ∙ (same_values (task_word (state new)) (task_word (state old))
      (λ other. word_after other
      ∙ ap (λ (b : Bool). if b && (word == other) then value else task_word (state old) other)
      last) 0 old.n)

-- the write of a part makes the part
pub made_by : (old new : Memory) (word value part : ℕ) (is_last : Bool) → InRange (state old) →
    word < old.n → IsBegun (state old) log.Task word value part →
    state new ≡ put (state old) (store_change (state old) log.Task word value part) →
    is_last ≡ store_ends (state old) log.Task word part →
    Stores log.Task word value part is_last (state old) (state new)
made_by old new word value part is_last range low begun e last =
    subst (λ (b : Bool). Stores log.Task word value part b (state old) (state new)) (sym last)
    (subst (λ (t : State). Stores log.Task word value part
    (store_ends (state old) log.Task word part) (state old) t) (sym e)
    (stores_set (state old) log.Task word value range part low begun))
