-- A merge takes the task log over into the transaction log, and then the attempt's flags into the
-- transaction's.
use Rattle.std.specs.Prelude.{ℕ, ◌+◌, ◌<◌, ◌≡◌, List, [], ◌∷◌, ◌++◌, Option, Some, None, true, if◌then◌else◌}
use Rattle.nv_memory.specs.declared.log.Log.TheVariants as log
use Rattle.nv_memory.specs.State.{Change, State, set_to}
use Rattle.nv_memory.specs.Words.{attempt_flag, tx_flag, tx_flag_seat}
use Rattle.nv_memory.specs.Logs.{index_in, length_in, log_value, number_in, pair_value_in, task_log, tx_log}
use Rattle.tx_buffer.specs.Next.{changes_below}

-- what makes a value stand in the transaction log, by the place of its word's pair there: the
-- value is replaced; else a pair is added, its length last
abbrev pub store_changes : State → (word value : ℕ) → Option ℕ → List Change
store_changes s word value (Some at) = set_to (tx_log.value at) value ∷ []
store_changes s word value None =
    set_to (tx_log.number (length_in s tx_log)) word
    ∷ set_to (tx_log.value (length_in s tx_log)) value
    ∷ set_to tx_log.length (length_in s tx_log + 1)
    ∷ []

-- those of a pair of the task log
abbrev pub pair_changes : State → ℕ → List Change
pair_changes s i =
    let word = number_in s task_log i in
    store_changes s word (pair_value_in s task_log i) (index_in s tx_log word)

-- a flag of the attempt becomes one of the transaction
abbrev pub flag_changes : State → ℕ → List Change
flag_changes s word = if attempt_flag s word then set_to (tx_flag_seat word) 1 ∷ [] else []

-- the pairs in their order, then the flags, that of the least word first
abbrev pub merge_changes : State → List Change
merge_changes s =
    changes_below (pair_changes s) (length_in s task_log) ++ changes_below (flag_changes s) s.n

-- the transaction has all that the task wrote and read
pub record IsMerged (s : State) : Type 0 where
  pub pairs : (i : ℕ) → i < length_in s task_log
      → log_value s log.Tx (number_in s task_log i) ≡ Some (pair_value_in s task_log i)
  pub flags : (word : ℕ) → word < s.n → attempt_flag s word ≡ true → tx_flag s word ≡ true
