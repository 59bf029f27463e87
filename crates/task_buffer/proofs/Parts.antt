-- The write of a part, by its address.
use Rattle.std.proofs.Common.{◌≡◌, ℕ, zero, suc, ◌<◌, refl, sym, ap, subst, arith, true, false, Some, None, Option}
use Rattle.nv_memory.specs.declared.log.Log.{Log}
use Rattle.nv_memory.specs.declared.write.Write.{Write}
use Rattle.nv_memory.specs.Seats.{Memory, address}
use Rattle.nv_memory.specs.State.{State, Writes, state}
use Rattle.nv_memory.specs.Logs.{HasLog, log_index, log_length, log_value, number_in, pair_value_in, seats_of}
use Rattle.nv_memory.specs.InRange.{InRange}
use Rattle.nv_memory.proofs.Looks.{index_none, look_none, look_some}
use Rattle.nv_memory.proofs.LogWrites.{room_for_new}
use Rattle.nv_memory.proofs.Puts.{writes_at}
use Rattle.nv_memory.proofs.Seats.{number_seat, value_seat}
use Rattle.task_buffer.specs.Stores.{IsBegun, change_at, ends_at, store_change, store_ends}

module _ (s : State) (log : Log) (word : ℕ) where
  pub none_of_index : log_index s log word ≡ None → log_value s log word ≡ None
  none_of_index e = look_none (number_in s (seats_of log)) (pair_value_in s (seats_of log)) (log_length s log) word e

  -- a store that goes on has found none
  pub none_once_begun : (value part : ℕ) → IsBegun s log word value part → 0 < part → None ≡ log_index s log word
  none_once_begun value zero begun l = absurd (omega arith)
  none_once_begun value (suc zero) begun l =
      sym (index_none (number_in s (seats_of log)) (pair_value_in s (seats_of log)) (log_length s log) word begun.0)
  none_once_begun value (suc (suc more)) begun l =
      sym (index_none (number_in s (seats_of log)) (pair_value_in s (seats_of log)) (log_length s log) word begun.0)

  -- where the log has the word the store ends
  pub ends_by_index : (part i : ℕ) → log_index s log word ≡ Some i → true ≡ store_ends s log word part
  ends_by_index part i e =
      sym (ap (ends_at part) (look_some (number_in s (seats_of log)) (pair_value_in s (seats_of log)) (log_length s log) word i e))

  pub goes_on_at_first : (part : ℕ) → part ≡ 0 → log_index s log word ≡ None → false ≡ store_ends s log word part
  goes_on_at_first part first e = rw (first, none_of_index e) refl

  pub room_in : InRange s → HasLog s.k log → word < s.n → log_index s log word ≡ None → log_length s log < s.n
  room_in r has low e = room_for_new s (seats_of log) word (r.logs log has) low (none_of_index e)

module _ (m : Memory) (log : Log) (word value part at : ℕ) where
  by_part : (p : ℕ) (write : Write) → part ≡ p → log_index (state m) log word ≡ None
      → Writes m (change_at (state m) log word value p None) write → Writes m (store_change (state m) log word value part) write
  by_part p write is none w =
      subst (λ (q : ℕ). Writes m (store_change (state m) log word value q) write) (sym is)
      (subst (λ (o : Option ℕ). Writes m (change_at (state m) log word value p o) write) (sym none) w)

  pub writes_number : part ≡ 0 → log_index (state m) log word ≡ None → HasLog m.k log → log_length (state m) log < m.n
      → at ≡ address m.n ((seats_of log).number (log_length (state m) log))
      → Writes m (store_change (state m) log word value part) (record { at = at; word = word })
  writes_number is none has room there =
      let len = log_length (state m) log in
      by_part 0 (record { at = at; word = word }) is none
      (writes_at m ((seats_of log).number len) word at word (number_seat m.n m.k log len has room) there refl)

  pub writes_value : part ≡ 1 → log_index (state m) log word ≡ None → HasLog m.k log → log_length (state m) log < m.n
      → at ≡ address m.n ((seats_of log).value (log_length (state m) log))
      → Writes m (store_change (state m) log word value part) (record { at = at; word = value })
  writes_value is none has room there =
      let len = log_length (state m) log in
      by_part 1 (record { at = at; word = value }) is none
      (writes_at m ((seats_of log).value len) value at value (value_seat m.n m.k log len has room) there refl)
