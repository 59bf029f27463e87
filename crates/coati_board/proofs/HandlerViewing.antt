-- Loads and parts of stores, as the bottom half in a handler sees them.
use Rattle.std.proofs.Common.{◌≡◌, ℕ, suc, ◌+◌, ◌<◌, ◌==◌, refl, sym, ap, subst, ◌∙◌, arith, Bool, true, false, if◌then◌else◌, List, [], ◌∷◌, Some, Option, length}
use Rattle.std.specs.Prelude.{slice_index, slice_set, ◌&&◌}
use Rattle.std.specs.Option.{unwrap_or}
use Rattle.std.proofs.lemmas.List.{length-map}
use Rattle.nv_memory.specs.declared.log.Log.{Log}
use Rattle.nv_memory.specs.declared.log.Log.TheVariants as log
use Rattle.nv_memory.specs.InRange.{InRange}
use Rattle.nv_memory.specs.Logs.{log_value}
use Rattle.nv_memory.specs.Ring.{Entry, entry_at, held_count, held_entries, held_slots, slot_of}
use Rattle.nv_memory.specs.Seats.{Memory}
use Rattle.nv_memory.specs.StandsFor.{committed_word}
use Rattle.nv_memory.specs.State.{State, put, state}
use Rattle.nv_memory.specs.Words.{tail}
use Rattle.event_buffer.specs.Fill.{is_full, tail_slot}
use Rattle.event_buffer.specs.Keeps.{KeepsHeld}
use Rattle.event_buffer.proofs.Filling.{beside_entry}
use Rattle.event_buffer.proofs.TailEntry.{tail_entry_is_free}
use Rattle.event_buffer.proofs.Slots.{held_length}
use Rattle.buffi_sets.specs.View.{changed_by, entry_value, handler_word, word_behind_entries}
use Rattle.buffi_sets.proofs.Viewing.{behind_held}
use Rattle.task_buffer.specs.StoreLaws.{Stores}
use Rattle.task_buffer.specs.Stores.{IsBegun, store_change, store_ends}
use Rattle.task_buffer.proofs.Stores.{stores_set}
use Rattle.coati_device.specs.HandlerView.{handler_words, tail_log}
use Rattle.coati_device.specs.TaskView.{values_from}
use Rattle.coati_board.proofs.Viewing.{same_values, value_at_index, values_length, values_set}

pub word_below : (m : Memory) (word : ℕ) → word < length (handler_words m) → word < m.n
word_below m word low = rw (values_length (handler_word (state m)) 0 m.n) at low

pub word_at : (m : Memory) (word : ℕ) → word < length (handler_words m) →
    slice_index (handler_words m) word ≡ handler_word (state m) word
word_at m word low =
    value_at_index (handler_word (state m)) 0 m.n word (word_below m word low)
    ∙ ap (handler_word (state m)) (omega arith)

same_slot_of : (s t : State) → t.k ≡ s.k → tail t ≡ tail s → tail_slot t ≡ tail_slot s
same_slot_of s t slots same =
    ap (λ (k : ℕ). slot_of k (tail t)) slots ∙ ap (slot_of s.k) same

-- logs with the same words change a value alike
same_changes : (s t : State) (word : ℕ) (slots : List ℕ) (value : ℕ) →
    ((i : ℕ) → i < length slots → log_value t (log.Entry (slice_index slots i)) word
    ≡ log_value s (log.Entry (slice_index slots i)) word) →
    changed_by t word slots value ≡ changed_by s word slots value
same_changes s t word [] value same = refl
same_changes s t word (slot ∷ slots) value same =
    ap (λ (found : Option ℕ). changed_by t word slots (unwrap_or found value))
    (same 0 (omega arith))
    ∙ same_changes s t word slots (unwrap_or (entry_value s slot word) value)
    (λ i low. same (suc i) (omega arith))

module _ (s t : State) (range : InRange s) (after : InRange t) (keeps : KeepsHeld s t) where
  slots_count : length (held_slots s) ≡ held_count s
  slots_count = sym (length-map (held_slots s) (entry_at s)) ∙ held_length s

  -- what stands behind the entries stays
  behind_stays : (word : ℕ) → word_behind_entries t word ≡ word_behind_entries s word
  behind_stays word =
      let count = slots_count in
      behind_held t after word
      ∙ ap (λ (slots : List ℕ). changed_by t word slots (committed_word t word)) keeps.slots
      ∙ ap (changed_by t word (held_slots s)) (keeps.same.words word)
      ∙ same_changes s t word (held_slots s) (committed_word s word)
      (λ i low. keeps.logs i (omega (arith, low, count)) word)
      ∙ sym (behind_held s range word)

-- where there is room, a store into the log of the entry at the tail leaves what is held
pub held_stays : (s t : State) (word value part : ℕ) (is_last : Bool) → InRange s →
    is_full s ≡ false → Stores (tail_log s) word value part is_last s t → KeepsHeld s t
held_stays s t word value part is_last range room made =
    tail_entry_is_free s t range room (beside_entry (tail_slot s) s t made.beside)

-- and the room
pub room_stays : (s t : State) (word value part : ℕ) (is_last : Bool) → InRange s →
    is_full s ≡ false → Stores (tail_log s) word value part is_last s t → is_full t ≡ false
room_stays s t word value part is_last range room made =
    let keeps = held_stays s t word value part is_last range room made in
    ap (λ (entries : List Entry). length entries == t.k) keeps.same.held
    ∙ ap (λ (k : ℕ). length (held_entries s) == k) made.beside.slots ∙ room

-- nor does it change what stands behind the entries
pub store_behind : (s t : State) (word value part : ℕ) (is_last : Bool) → InRange s →
    is_full s ≡ false → Stores (tail_log s) word value part is_last s t → (other : ℕ) →
    word_behind_entries t other ≡ word_behind_entries s other
store_behind s t word value part is_last range room made =
    behind_stays s t range made.range (held_stays s t word value part is_last range room made)

module _ (old new : Memory) (word value part : ℕ) (is_last : Bool)
    (made : Stores (tail_log (state old)) word value part is_last (state old) (state new))
    (behind : (other : ℕ) →
    word_behind_entries (state new) other ≡ word_behind_entries (state old) other) where
  same_slot : tail_slot (state new) ≡ tail_slot (state old)
  same_slot = same_slot_of (state old) (state new) made.beside.slots made.beside.same_tail

  seen_step : (b : Bool) (under : ℕ) (own : Option ℕ) →
      unwrap_or (if b then Some value else own) under ≡ (if b then value else unwrap_or own under)
  seen_step true under own = refl
  seen_step false under own = refl

  word_after : (other : ℕ) → handler_word (state new) other
      ≡ (if is_last && (word == other) then value else handler_word (state old) other)
  word_after other =
      let s = state old in
      let t = state new in
      ap (λ (slot : ℕ). unwrap_or (entry_value t slot other) (word_behind_entries t other))
      same_slot
      ∙ rw (made.log_after other, behind other)
      (seen_step (is_last && (word == other)) (word_behind_entries s other)
      (log_value s (tail_log s) other))

  pub words_stored : is_last ≡ true → word < old.n →
      handler_words new ≡ slice_set (handler_words old) word value
  words_stored last low =
      ap (values_from (handler_word (state new)) 0) made.beside.words
      ∙ (same_values (handler_word (state new))
      (λ other. if word == other then value else handler_word (state old) other)
      (λ other. word_after other
      ∙ ap (λ (b : Bool). if b && (word == other) then value else handler_word (state old) other)
      last) 0 old.n
      ∙ values_set (handler_word (state old)) value 0 old.n word word low (omega arith))

  pub words_kept : is_last ≡ false → handler_words new ≡ handler_words old
  words_kept last =
      ap (values_from (handler_word (state new)) 0) made.beside.words
      ∙ (same_values (handler_word (state new)) (handler_word (state old))
      (λ other. word_after other
      ∙ ap (λ (b : Bool). if b && (word == other) then value else handler_word (state old) other)
      last) 0 old.n)

  -- the parts before the next one are made of the store into the same log
  pub begun_kept : is_last ≡ false →
      IsBegun (state new) (tail_log (state new)) word value (part + 1)
  begun_kept more =
      subst (λ (slot : ℕ). IsBegun (state new) (log.Entry slot) word value (part + 1))
      (sym same_slot) (made.begun more)

-- the write of a part makes the part
pub made_at_tail : (old new : Memory) (own : Log) (word value part : ℕ) (is_last : Bool) →
    own ≡ tail_log (state old) → InRange (state old) →
    word < old.n → IsBegun (state old) (tail_log (state old)) word value part →
    state new ≡ put (state old) (store_change (state old) own word value part) →
    is_last ≡ store_ends (state old) own word part →
    Stores (tail_log (state old)) word value part is_last (state old) (state new)
made_at_tail old new own word value part is_last own_is range low begun e last =
    subst (λ (one : Log). Stores one word value part is_last (state old) (state new)) own_is
    (subst (λ (b : Bool). Stores own word value part b (state old) (state new)) (sym last)
    (subst (λ (t : State). Stores own word value part (store_ends (state old) own word part)
    (state old) t) (sym e)
    (stores_set (state old) own word value range part low
    (subst (λ (one : Log). IsBegun (state old) one word value part) (sym own_is) begun))))
