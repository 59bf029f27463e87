-- An attempt's flags: the words that it read before the open unit wrote them.
use Rattle.std.specs.Prelude.{ℕ, ◌==◌, ◌≡◌, ◌≢◌, ◌⊎◌, ◌||◌, ◌<◌, List, [], ◌∷◌, None, Some, true, false}
use Rattle.nv_memory.specs.declared.log.Log.{Log}
use Rattle.nv_memory.specs.State.{Change, State, first_undone, put, set_to}
use Rattle.nv_memory.specs.Words.{attempt_flag, attempt_flag_seat, current, doomed, mark, mode, opened, tx_flag}
use Rattle.nv_memory.specs.Logs.{log_value}
use Rattle.nv_memory.specs.StandsFor.{unit_value}
use Rattle.nv_memory.specs.InRange.{InRange, IsClosed}
use Rattle.tx_buffer.specs.Next.{changes_below}
use Rattle.buffi_sets.specs.Keeps.{Keeps}

-- a log of the unit has the word, or its flag is set
abbrev pub NeedsNoFlag : State → ℕ → Type 0
NeedsNoFlag s word = (unit_value s word ≢ None) ⊎ (attempt_flag s word ≡ true)

-- the flag of a word is set
abbrev pub flag_change : ℕ → Change
flag_change word = set_to (attempt_flag_seat word) 1

-- the attempt's flag of one word is set, and all else is as before
pub record Flags (old : State) (word : ℕ) (new : State) : Type 0 where
  pub attempt_flags : (other : ℕ)
      → attempt_flag new other ≡ (other == word || attempt_flag old other)
  pub tx_flags : (other : ℕ) → tx_flag new other ≡ tx_flag old other
  pub logs : (log : Log) (other : ℕ) → log_value new log other ≡ log_value old log other
  pub keeps : Keeps old new

abbrev pub FlagWritesSetOneFlag : Type 0
FlagWritesSetOneFlag =
    (s : State) (word : ℕ) → InRange s → IsClosed s → Flags s word (put s (flag_change word))

-- no flag of the attempt is set
abbrev pub HasNoFlag : State → Type 0
HasNoFlag s = (word : ℕ) → word < s.n → attempt_flag s word ≡ false

-- a flag is taken back
abbrev pub unflag_change : ℕ → Change
unflag_change word = set_to (attempt_flag_seat word) 0

-- all of the attempt's are, that of the least word first
abbrev pub unflag_attempt_changes : State → List Change
unflag_attempt_changes s = changes_below (λ word. unflag_change word ∷ []) s.n

-- a write that takes back a flag of the attempt leaves all else
pub record Unflags (old new : State) : Type 0 where
  pub tx_flags : (other : ℕ) → tx_flag new other ≡ tx_flag old other
  pub logs : (log : Log) (other : ℕ) → log_value new log other ≡ log_value old log other
  pub same_mark : mark new ≡ mark old
  pub same_current : current new ≡ current old
  pub same_opened : opened new ≡ opened old
  pub same_doomed : doomed new ≡ doomed old
  pub same_mode : mode new ≡ mode old
  pub keeps : Keeps old new

abbrev pub UnflagWritesTakeOneBack : Type 0
UnflagWritesTakeOneBack =
    (s : State) (change : Change) → InRange s → IsClosed s →
    first_undone s (unflag_attempt_changes s) ≡ Some change → Unflags s (put s change)
