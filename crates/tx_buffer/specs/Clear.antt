-- The transaction's log is emptied and its flags are taken back.
use Rattle.std.specs.Prelude.{ℕ, ◌<◌, ◌≡◌, List, [], ◌∷◌, false}
use Rattle.nv_memory.specs.State.{Change, State, set_to}
use Rattle.nv_memory.specs.Words.{tx_flag, tx_flag_seat}
use Rattle.nv_memory.specs.Logs.{length_in, tx_log}
use Rattle.tx_buffer.specs.Next.{changes_below}

-- the flag of a word is taken back
abbrev pub unflag_changes : ℕ → List Change
unflag_changes word = set_to (tx_flag_seat word) 0 ∷ []

-- the log first, then the flags, that of the least word first
abbrev pub clear_changes : State → List Change
clear_changes s = set_to tx_log.length 0 ∷ changes_below unflag_changes s.n

-- nothing is left of a transaction
pub record IsCleared (s : State) : Type 0 where
  pub empty : length_in s tx_log ≡ 0
  pub flags : (word : ℕ) → word < s.n → tx_flag s word ≡ false
