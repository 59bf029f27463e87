-- The oldest held event clashes with what the tasks read: a word in the log of the entry at the
-- head is a shared read of the open transaction or of the attempt.
use Rattle.std.specs.Prelude.{ℕ, ◌<◌, ◌==◌, ◌≡◌, ◌≢◌, ◌&&◌, ◌||◌, Bool, true, false, Option, None}
use Rattle.nv_memory.specs.declared.log.Log.TheVariants as log
use Rattle.nv_memory.specs.State.{State}
use Rattle.nv_memory.specs.Words.{attempt_flag, opened, tx_flag}
use Rattle.nv_memory.specs.Logs.{log_value}
use Rattle.nv_memory.specs.StandsFor.{head_slot}

-- the value of a word in the log of the entry at the head
abbrev pub head_value : State → ℕ → Option ℕ
head_value s word = log_value s (log.Entry (head_slot s)) word

-- the open transaction read the word before it wrote it, or the attempt did, where there is one
abbrev pub is_shared_read : State → (attempt : Bool) → ℕ → Bool
is_shared_read s attempt word = opened s == 1 && tx_flag s word || attempt && attempt_flag s word

-- the event writes what the tasks read
pub record Clashes (s : State) (attempt : Bool) (word : ℕ) : Type 0 where
  pub written : head_value s word ≢ None
  pub read : is_shared_read s attempt word ≡ true

-- the least such word
pub record IsConflict (s : State) (attempt : Bool) (word : ℕ) : Type 0 where
  pub clashes : Clashes s attempt word
  pub least : (other : ℕ) → other < word → ¬ Clashes s attempt other

-- no word that the event writes is a shared read
abbrev pub HasNoConflict : State → Bool → Type 0
HasNoConflict s attempt =
    (word : ℕ) → head_value s word ≢ None → is_shared_read s attempt word ≡ false
