-- Loads and parts of stores, as the bottom half sees them.
use Rattle.std.proofs.Common.{◌≡◌, ℕ, ◌<◌, ◌==◌, refl, sym, ap, subst, ◌∙◌, arith, Bool, true, false, if◌then◌else◌, Some, Option, length, ◌+◌}
use Rattle.std.specs.Prelude.{slice_index, slice_set, ◌&&◌}
use Rattle.std.specs.Option.{unwrap_or}
use Rattle.nv_memory.specs.declared.log.Log.{Log}
use Rattle.nv_memory.specs.declared.log.Log.TheVariants as log
use Rattle.nv_memory.specs.InRange.{InRange}
use Rattle.nv_memory.specs.Logs.{HasLog, log_value}
use Rattle.nv_memory.specs.Ring.{slot_of}
use Rattle.nv_memory.specs.Seats.{Memory}
use Rattle.nv_memory.specs.StandsFor.{head_slot}
use Rattle.nv_memory.specs.State.{State, put, state}
use Rattle.nv_memory.specs.Words.{head, variable}
use Rattle.nv_memory.proofs.Turns.{slot_low}
use Rattle.task_buffer.specs.StoreLaws.{Stores}
use Rattle.task_buffer.specs.Stores.{IsBegun, store_change, store_ends}
use Rattle.task_buffer.proofs.Stores.{stores_set}
use Rattle.coati_device.specs.BottomView.{bottom_word, bottom_words, head_log}
use Rattle.coati_device.specs.TaskView.{values_from}
use Rattle.coati_board.proofs.Viewing.{same_values, value_at_index, values_length, values_set}

pub word_below : (m : Memory) (word : ℕ) → word < length (bottom_words m) → word < m.n
word_below m word low = rw (values_length (bottom_word (state m)) 0 m.n) at low

pub word_at : (m : Memory) (word : ℕ) → word < length (bottom_words m) →
    slice_index (bottom_words m) word ≡ bottom_word (state m) word
word_at m word low = value_at_index (bottom_word (state m)) 0 m.n word (word_below m word low) ∙ ap
    (bottom_word (state m)) (omega arith)

-- the entry at the head has a log
pub has_head_log : (s : State) → HasLog s.k (head_log s)
has_head_log s = slot_low s.k (head s)

same_slot_of : (s t : State) → t.k ≡ s.k → head t ≡ head s → head_slot t ≡ head_slot s
same_slot_of s t slots same = ap (λ (k : ℕ). slot_of k (head t)) slots ∙ ap (slot_of s.k) same

module _ (old new : Memory) (word value part : ℕ) (is_last : Bool)
    (made : Stores (head_log (state old)) word value part is_last (state old) (state new)) where
  same_slot : head_slot (state new) ≡ head_slot (state old)
  same_slot = same_slot_of (state old) (state new) made.beside.slots made.beside.same_head

  seen_step : (b : Bool) (under : ℕ) (own : Option ℕ) →
      unwrap_or (if b then Some value else own) under ≡ (if b then value else unwrap_or own under)
  seen_step true under own = refl
  seen_step false under own = refl

  word_after : (other : ℕ) →
      bottom_word (state new) other
      ≡ (if is_last && (word == other) then value else bottom_word (state old) other)
  word_after other =
      ap (λ (slot : ℕ). unwrap_or (log_value (state new) (log.Entry slot) other)
      (variable (state new) other)) same_slot
      ∙ rw (made.log_after other, made.beside.variables other)
      (seen_step (is_last && (word == other)) (variable (state old) other)
      (log_value (state old) (head_log (state old)) other))

  pub words_stored : is_last ≡ true → word < old.n →
      bottom_words new ≡ slice_set (bottom_words old) word value
  words_stored last low =
      ap (values_from (bottom_word (state new)) 0) made.beside.words
      ∙ (same_values (bottom_word (state new))
      (λ other. if word == other then value else bottom_word (state old) other)
      (λ other. word_after other ∙ ap
      (λ (b : Bool). if b && (word == other) then value else bottom_word (state old) other)
      last) 0 old.n
      ∙ values_set (bottom_word (state old)) value 0 old.n word word low (omega arith))

  pub words_kept : is_last ≡ false → bottom_words new ≡ bottom_words old
  words_kept last =
      ap (values_from (bottom_word (state new)) 0) made.beside.words
      ∙ (same_values (bottom_word (state new)) (bottom_word (state old))
      (λ other. word_after other ∙ ap
      (λ (b : Bool). if b && (word == other) then value else bottom_word (state old) other)
      last) 0 old.n)

  -- the parts before the next one are made of the store into the same log
  pub begun_kept : is_last ≡ false →
      IsBegun (state new) (head_log (state new)) word value (part + 1)
  begun_kept more =
      subst (λ (slot : ℕ). IsBegun (state new) (log.Entry slot) word value (part + 1))
      (sym same_slot) (made.begun more)

-- the write of a part makes the part
pub made_at_head : (old new : Memory) (own : Log) (word value part : ℕ) (is_last : Bool) →
    own ≡ head_log (state old) → InRange (state old) →
    word < old.n → IsBegun (state old) (head_log (state old)) word value part →
    state new ≡ put (state old) (store_change (state old) own word value part) →
    is_last ≡ store_ends (state old) own word part →
    Stores (head_log (state old)) word value part is_last (state old) (state new)
made_at_head old new own word value part is_last own_is range low begun e last =
    subst (λ (one : Log). Stores one word value part is_last (state old) (state new)) own_is
    (subst (λ (b : Bool). Stores own word value part b (state old) (state new)) (sym last)
    (subst (λ (t : State). Stores own word value part (store_ends (state old) own word part)
    (state old) t) (sym e)
    (stores_set (state old) own word value range part low
    (subst (λ (one : Log). IsBegun (state old) one word value part) (sym own_is) begun))))
