-- What the writes of a merge leave as it is: the unit's values by look-up, and its flags as facts.
use Rattle.std.specs.Prelude.{ℕ, ◌<◌, ◌≡◌, ◌||◌, Bool, Some, None}
use Rattle.nv_memory.specs.declared.log.Log.TheVariants as log
use Rattle.nv_memory.specs.InRange.{InRange}
use Rattle.nv_memory.specs.Logs.{log_value}
use Rattle.nv_memory.specs.StandsFor.{unit_value}
use Rattle.nv_memory.specs.State.{Change, State, first_undone, put}
use Rattle.nv_memory.specs.Words.{attempt_flag, tx_flag}
use Rattle.tx_buffer.specs.Merge.{merge_changes}

-- a word is a shared read of the transaction or of the attempt
abbrev pub joined_flag : State → ℕ → Bool
joined_flag s word = tx_flag s word || attempt_flag s word

pub record KeepsMerged (old new : State) : Type 0 where
  pub values : (word : ℕ) → unit_value new word ≡ unit_value old word
  pub flags : (word : ℕ) → joined_flag new word ≡ joined_flag old word
  pub range : InRange new

-- each write of a merge leaves them
abbrev pub MergesKeepMerged : Type 0
MergesKeepMerged =
    (s : State) (change : Change) → InRange s → first_undone s (merge_changes s) ≡ Some change
    → KeepsMerged s (put s change)

-- the transaction log is both logs together, and its flags are the joined ones
pub record HasMerged (s : State) : Type 0 where
  pub values : (word : ℕ) → log_value s log.Tx word ≡ unit_value s word
  pub flags : (word : ℕ) → word < s.n → tx_flag s word ≡ joined_flag s word

-- so it is where no write is left
abbrev pub MergesEndMerged : Type 0
MergesEndMerged = (s : State) → InRange s → first_undone s (merge_changes s) ≡ None → HasMerged s
