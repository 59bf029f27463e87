-- Laws of logs.
use Rattle.std.specs.Prelude.{ℕ, ◌<◌, ◌≤◌, ◌≡◌, ◌↔◌, None}
use Rattle.nv_memory.specs.declared.log.Log.{Log}
use Rattle.nv_memory.specs.State.{State}
use Rattle.nv_memory.specs.Logs.{IsEmpty, IsLog, log_length, log_value, seats_of}

-- a log in range has room for a word that it doesn't have
abbrev pub LogsHaveRoom : Type 0
LogsHaveRoom = (s : State) (log : Log) (word : ℕ) → IsLog s (seats_of log) → word < s.n →
    log_value s log word ≡ None → log_length s log < s.n

-- it has none but variable words
abbrev pub LogsHaveVariables : Type 0
LogsHaveVariables = (s : State) (log : Log) (word : ℕ) → IsLog s (seats_of log) → s.n ≤ word →
    log_value s log word ≡ None

-- it is empty exactly where it has no pair
abbrev pub EmptyLogsHaveNoPair : Type 0
EmptyLogsHaveNoPair = (s : State) (log : Log) → IsLog s (seats_of log) →
    (IsEmpty s log ↔ (log_length s log ≡ 0))
