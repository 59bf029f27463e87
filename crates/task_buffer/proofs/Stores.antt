-- What a part of a store, and the emptying write, make of the image.
use Rattle.std.proofs.Common.{◌≡◌, ℕ, zero, suc, ◌+◌, ◌<◌, refl, sym, ap, subst, ◌∙◌, arith, Bool, true, false, Some, None, Option}
use Rattle.nv_memory.specs.declared.log.Log.{Log}
use Rattle.nv_memory.specs.declared.log.Log.TheVariants as log
use Rattle.nv_memory.specs.State.{State, put, set_to}
use Rattle.nv_memory.specs.Logs.{log_index, log_length, log_value, number_in, pair_value_in, seats_of}
use Rattle.nv_memory.specs.InRange.{InRange, IsClosed}
use Rattle.nv_memory.proofs.Looks.{look_none, look_some}
use Rattle.nv_memory.proofs.LogWrites.{apart_of, length_beside_number, length_beside_value, number_beside_value, number_written, value_behind_number, value_behind_value, value_emptied, value_longer, value_replaced, value_written}
use Rattle.nv_memory.proofs.Frames.{closed_beside, length_keeps_beside, number_keeps_beside, range_after_value, range_behind_number, range_emptied, range_longer, value_keeps_beside}
use Rattle.task_buffer.specs.Stores.{IsBegun, change_at, ends_at, part_change, store_change, store_ends}
use Rattle.task_buffer.specs.StoreLaws.{Empties, Stores}

module _ (s : State) (own : Log) (word value : ℕ) (r : InRange s) where
  -- the log has the word: its value is written over
  replaces : (part i : ℕ) → log_index s own word ≡ Some i → Stores own word value part true s (put s (set_to ((seats_of own).value i) value))
  replaces part i e = record {
    log_after = λ other. value_replaced s (seats_of own) (apart_of own) i word value other e;
    begun = λ d. absurd cc;
    beside = value_keeps_beside s own i value;
    range = range_after_value s own i value r;
    closed = closed_beside s _ own (value_keeps_beside s own i value);
  }

  -- else the parts of a new pair are written behind those of the log
  numbers : log_value s own word ≡ None → Stores own word value 0 false s (put s (part_change s own word value 0))
  numbers none = let len = log_length s own in let same = value_behind_number s (seats_of own) (apart_of own) len word in record {
    log_after = λ other. same other (omega arith);
    begun = λ d. (
      same word (omega arith) ∙ none,
      rw (length_beside_number s (seats_of own) (apart_of own) len word) (number_written s (seats_of own) (apart_of own) len word),
    );
    beside = number_keeps_beside s own len word;
    range = range_behind_number s own len word (omega arith) r;
    closed = closed_beside s _ own (number_keeps_beside s own len word);
  }

  values : IsBegun s own word value 1 → Stores own word value 1 false s (put s (part_change s own word value 1))
  values begun = let len = log_length s own in let same = value_behind_value s (seats_of own) (apart_of own) len value in record {
    log_after = λ other. same other (omega arith);
    begun = λ d.
        let t = put s (set_to ((seats_of own).value len) value) in
        let length_same = length_beside_value s (seats_of own) (apart_of own) len value in (
          same word (omega arith) ∙ begun.0,
          ap (number_in t (seats_of own)) length_same ∙ number_beside_value s (seats_of own) (apart_of own) len value len ∙ begun.1,
          ap (pair_value_in t (seats_of own)) length_same ∙ value_written s (seats_of own) (apart_of own) len value,
        );
    beside = value_keeps_beside s own len value;
    range = range_after_value s own len value r;
    closed = closed_beside s _ own (value_keeps_beside s own len value);
  }

  lengthens : (more : ℕ) → word < s.n → IsBegun s own word value 2
      → Stores own word value (suc (suc more)) true s (put s (part_change s own word value (suc (suc more))))
  lengthens more low begun = let len = log_length s own in record {
    log_after = λ other. value_longer s (seats_of own) (apart_of own) word value other begun.1 begun.2;
    begun = λ d. absurd cc;
    beside = length_keeps_beside s own (len + 1);
    range = range_longer s own word low begun.0 begun.1 r;
    closed = closed_beside s _ own (length_keeps_beside s own (len + 1));
  }

  new_pair : (part : ℕ) → word < s.n → log_value s own word ≡ None → IsBegun s own word value part
      → Stores own word value part (ends_at part None) s (put s (part_change s own word value part))
  new_pair zero low none begun = numbers none
  new_pair (suc zero) low none begun = values begun
  new_pair (suc (suc more)) low none begun = lengthens more low begun

  stores_by : (part : ℕ) (o : Option ℕ) → log_index s own word ≡ o → word < s.n → IsBegun s own word value part
      → Stores own word value part (store_ends s own word part) s (put s (change_at s own word value part o))
  stores_by part (Some i) e low begun =
      let found = look_some (number_in s (seats_of own)) (pair_value_in s (seats_of own)) (log_length s own) word i e in
      subst (λ (done : Bool). Stores own word value part done s (put s (set_to ((seats_of own).value i) value)))
      (sym (ap (ends_at part) found)) (replaces part i e)
  stores_by part None e low begun =
      let none = look_none (number_in s (seats_of own)) (pair_value_in s (seats_of own)) (log_length s own) word e in
      subst (λ (done : Bool). Stores own word value part done s (put s (part_change s own word value part)))
      (sym (ap (ends_at part) none)) (new_pair part low none begun)

  pub stores_set : (part : ℕ) → word < s.n → IsBegun s own word value part
      → Stores own word value part (store_ends s own word part) s (put s (store_change s own word value part))
  stores_set part low begun = stores_by part (log_index s own word) refl low begun

pub emptied : (s : State) (own : Log) → InRange s → Empties own s (put s (set_to (seats_of own).length 0))
emptied s own r = record {
  empty = λ word. value_emptied s (seats_of own) (apart_of own) word;
  beside = length_keeps_beside s own 0;
  range = range_emptied s own r;
  closed = closed_emptied s own;
}
  where
    closed_emptied : (s : State) (own : Log) → IsClosed s → IsClosed (put s (set_to (seats_of own).length 0))
    closed_emptied s log.Task c = closed_beside s _ log.Task (length_keeps_beside s log.Task 0) (λ e. absurd cc) c
    closed_emptied s (log.Entry slot) c = closed_beside s _ (log.Entry slot) (length_keeps_beside s (log.Entry slot) 0) (λ e. absurd cc) c
    closed_emptied s log.Tx c = record {
      empty = λ o m word. refl;
      flags = c.flags;
      doomed_mark = c.doomed_mark;
      doomed_place = c.doomed_place;
    }
