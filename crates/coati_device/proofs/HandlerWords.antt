-- The words that the bottom half in a handler sees, in mode buffi. At its start they are what the
-- held events leave of the committed words.
use Rattle.std.proofs.Common.{◌≡◌, ℕ, zero, suc, ◌+◌, ◌<◌, ◌≤◌, ◌==◌, List, Bool, true, false, Option, None, if◌then◌else◌, length, refl, sym, ap, ◌∙◌, arith}
use Rattle.std.specs.Prelude.{nat_lt, slice_index}
use Rattle.std.specs.Option.{unwrap_or}
use Rattle.std.proofs.lemmas.Bool.Decides.{nat_tests}
use Rattle.coati_word.specs.declared.reading.Reading.{Reading}
use Rattle.task_syntax.specs.declared.program.Program.{Program}
use Rattle.task_syntax.specs.Course.{Store}
use Rattle.task_syntax.specs.CourseLaws.{LastWritesTellTheStore}
use Rattle.nv_memory.specs.declared.log.Log.TheVariants as log
use Rattle.nv_memory.specs.declared.log.Log.{Log}
use Rattle.nv_memory.specs.InRange.{InRange}
use Rattle.nv_memory.specs.Logs.{HasLog, IsEmpty, log_value, seats_of}
use Rattle.nv_memory.specs.Ring.{held_count, held_slots, is_taking, oldest, position_after, slot_of, slots_from}
use Rattle.nv_memory.specs.Seats.{Memory}
use Rattle.nv_memory.specs.StandsFor.{committed_word, first_value, head_slot, unit_value}
use Rattle.nv_memory.specs.State.{State, state}
use Rattle.nv_memory.specs.Words.{head, mark, mode, variable}
use Rattle.nv_memory.proofs.LogWrites.{none_beyond}
use Rattle.nv_memory.proofs.Turns.{slot_low}
use Rattle.buffi_sets.specs.View.{HandlersReadBehindHeldEvents, changed_by, entry_value, handler_word, word_behind_entries}
use Rattle.serial_log.specs.Standing.{Standing}
use Rattle.coati_device.specs.HandlerView.{handler_words, tail_log}
use Rattle.coati_device.specs.HeldEvents.{EventsFit}
use Rattle.coati_device.specs.Points.{StandsFor}
use Rattle.coati_device.proofs.AcceptedEvents.{behind_events, store_behind}
use Rattle.coati_device.proofs.TaskWords.{none_behind, value_at, values_length, variable_behind}

-- there are as many words as there are variable words
pub handler_length : (m : Memory) → length (handler_words m) ≡ m.n
handler_length m = values_length (handler_word (state m)) 0 m.n

-- behind the variable words there is nothing in any log
module _ (s : State) (range : InRange s) (word : ℕ) (beyond : s.n ≤ word) where
  unlogged : (own : Log) → HasLog s.k own → log_value s own word ≡ None
  unlogged own has = none_beyond s (seats_of own) word (range.logs own has) beyond

  unchanged : (from count value : ℕ) → changed_by s word (slots_from s.k from count) value ≡ value
  unchanged from zero value = refl
  unchanged from (suc count) value =
      let none : entry_value s (slot_of s.k from) word ≡ None =
      unlogged (log.Entry (slot_of s.k from)) (slot_low s.k from) in
      ap (λ (found : Option ℕ). changed_by s word
      (slots_from s.k (position_after s.k from) count) (unwrap_or found value)) none
      ∙ unchanged (position_after s.k from) count value

  no_unit_value : unit_value s word ≡ None
  no_unit_value =
      ap (λ (found : Option ℕ). first_value found (log_value s log.Tx word))
      (unlogged log.Task tt)
      ∙ unlogged log.Tx tt

  none_applied : (unit taking : Bool) → (if unit then unit_value s word
      else (if taking then log_value s (log.Entry (head_slot s)) word else None)) ≡ None
  none_applied true taking = no_unit_value
  none_applied false true = unlogged (log.Entry (head_slot s)) (slot_low s.k (head s))
  none_applied false false = refl

  committed_beyond : committed_word s word ≡ variable s word
  committed_beyond =
      ap (λ (found : Option ℕ). unwrap_or found (variable s word))
      (none_applied (mark s == 2) (is_taking s))

-- its own log being empty, it sees what stands behind the entries
word_unlogged : (s : State) (word : ℕ) → log_value s (tail_log s) word ≡ None
    → handler_word s word ≡ word_behind_entries s word
word_unlogged s word none =
    ap (λ (found : Option ℕ). unwrap_or found (word_behind_entries s word)) none

module _ (behind : HandlersReadBehindHeldEvents) (lasts : LastWritesTellTheStore)
    (program : Program) (m : Memory) (standing : Standing) (events : List (List Reading))
    (range : InRange (state m)) (buffi : mode (state m) ≡ 1)
    (stands : StandsFor program (state m) standing)
    (fits : EventsFit program (state m) standing events) where
  -- what the held events leave
  abbrev pub base : Store
  base = behind_events program standing.rest standing.run.store

  held_leave : (word : ℕ)
      → changed_by (state m) word (held_slots (state m)) (committed_word (state m) word)
      ≡ base word
  held_leave word =
      store_behind lasts program (state m) (held_slots (state m)) standing.rest events
      standing.run.store word (committed_word (state m) word) (stands.words word) (fits buffi)

  seen_at_start : IsEmpty (state m) (tail_log (state m)) → (word : ℕ) (is : Bool)
      → nat_lt word m.n ≡ is → slice_index (handler_words m) word ≡ base word
  seen_at_start empty word true low =
      let within : word < m.n = grind (arith, nat_tests) in
      let at : 0 + word ≡ word = omega arith in
      value_at (handler_word (state m)) 0 m.n word within
      ∙ ap (handler_word (state m)) at
      ∙ word_unlogged (state m) word (empty word)
      ∙ behind (state m) range word
      ∙ held_leave word
  seen_at_start empty word false high =
      let s = state m in
      let outside : m.n ≤ word = grind (arith, nat_tests) in
      let nothing : variable s word ≡ 0 = variable_behind m word high in
      none_behind (handler_word s) 0 m.n word outside
      ∙ sym (sym (held_leave word)
      ∙ unchanged s range word outside (oldest s) (held_count s) (committed_word s word)
      ∙ committed_beyond s range word outside
      ∙ nothing)

  -- a bottom half that starts sees what the held events leave
  pub handler_at_start : IsEmpty (state m) (tail_log (state m))
      → slice_index (handler_words m) ≡ base
  handler_at_start empty =
      λ i. λ word. seen_at_start empty word (nat_lt word m.n) refl i
