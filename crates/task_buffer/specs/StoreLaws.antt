-- What the parts of a store, and the write that empties a log, make of the image.
use Rattle.std.specs.Prelude.{ℕ, ◌+◌, ◌==◌, ◌<◌, ◌≡◌, ◌≢◌, Bool, false, Some, ◌&&◌, if◌then◌else◌}
use Rattle.nv_memory.specs.declared.log.Log.{Log}
use Rattle.nv_memory.specs.declared.log.Log.TheVariants as log
use Rattle.nv_memory.specs.State.{State, put, set_to}
use Rattle.nv_memory.specs.Logs.{HasLog, IsEmpty, log_value, seats_of}
use Rattle.nv_memory.specs.Frames.{KeepsBeside}
use Rattle.nv_memory.specs.InRange.{InRange, IsClosed}
use Rattle.task_buffer.specs.Stores.{IsBegun, store_change, store_ends}

-- the log has the value once the store ends, and until then what it had
pub record Stores (own : Log) (word value part : ℕ) (done : Bool) (s t : State) : Type 0 where
  pub log_after : (other : ℕ) → log_value t own other ≡ (if done && (word == other) then Some value
      else log_value s own other)
  pub begun : done ≡ false → IsBegun t own word value (part + 1)
  pub beside : KeepsBeside own s t
  pub range : InRange t
  pub closed : own ≢ log.Tx → IsClosed s → IsClosed t

abbrev pub StoresSetTheValue : Type 0
StoresSetTheValue = (s : State) (own : Log) (word value part : ℕ) → InRange s → HasLog s.k own →
    word < s.n
    → IsBegun s own word value part
    → Stores own word value part (store_ends s own word part) s
    (put s (store_change s own word value part))

-- the log has no word, and nothing beside it is changed
pub record Empties (own : Log) (s t : State) : Type 0 where
  pub empty : IsEmpty t own
  pub beside : KeepsBeside own s t
  pub range : InRange t
  pub closed : IsClosed s → IsClosed t

abbrev pub ResetsEmptyTheLog : Type 0
ResetsEmptyTheLog = (s : State) (own : Log) → InRange s → HasLog s.k own →
    Empties own s (put s (set_to (seats_of own).length 0))
