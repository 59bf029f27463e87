-- A store into a log, part by part.
use Rattle.std.specs.Prelude.{ℕ, zero, suc, ◌+◌, ◌≡◌, Bool, true, false, Option, Some, None}
use Rattle.nv_memory.specs.declared.log.Log.{Log}
use Rattle.nv_memory.specs.State.{Change, State, set_to}
use Rattle.nv_memory.specs.Logs.{log_index, log_length, log_value, number_in, pair_value_in, seats_of}

-- the value is written over the one that the log has, or the part of a new pair: word number,
-- value, longer log
abbrev pub part_change : State → Log → (word value part : ℕ) → Change
part_change s log word value zero = set_to ((seats_of log).number (log_length s log)) word
part_change s log word value (suc zero) = set_to ((seats_of log).value (log_length s log)) value
part_change s log word value (suc (suc more)) = set_to (seats_of log).length (log_length s log + 1)

abbrev pub change_at : State → Log → (word value part : ℕ) → Option ℕ → Change
change_at s log word value part (Some i) = set_to ((seats_of log).value i) value
change_at s log word value part None = part_change s log word value part

abbrev pub store_change : State → Log → (word value part : ℕ) → Change
store_change s log word value part = change_at s log word value part (log_index s log word)

-- the part is the last one
abbrev pub is_last_part : ℕ → Bool
is_last_part zero = false
is_last_part (suc zero) = false
is_last_part (suc (suc more)) = true

abbrev pub ends_at : ℕ → Option ℕ → Bool
ends_at part (Some value) = true
ends_at part None = is_last_part part

abbrev pub store_ends : State → Log → (word part : ℕ) → Bool
store_ends s log word part = ends_at part (log_value s log word)

-- the parts of the store before this one stand behind the log's pairs
abbrev pub IsBegun : State → Log → (word value part : ℕ) → Type 0
IsBegun s log word value zero = Unit {0}
IsBegun s log word value (suc zero) =
    (log_value s log word ≡ None) × (number_in s (seats_of log) (log_length s log) ≡ word)
IsBegun s log word value (suc (suc more)) =
    (log_value s log word ≡ None) × (number_in s (seats_of log) (log_length s log) ≡ word)
    × (pair_value_in s (seats_of log) (log_length s log) ≡ value)
