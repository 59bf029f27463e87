-- What a write leaves as it was.
use Rattle.std.specs.Prelude.{ℕ, ◌≡◌, ◌≢◌}
use Rattle.nv_memory.specs.declared.log.Log.{Log}
use Rattle.nv_memory.specs.State.{State}
use Rattle.nv_memory.specs.Words.{attempt_flag_seat, current, doomed, first, head, head_next, mark, mode, next, opened, tail, tx_flag_seat, variable}
use Rattle.nv_memory.specs.Logs.{log_value}
use Rattle.nv_memory.specs.Ring.{entry_at, held_entries}
use Rattle.nv_memory.specs.StandsFor.{committed_word, place_of}

-- nothing but one log
pub record KeepsBeside (log : Log) (s t : State) : Type 0 where
  pub words : t.n ≡ s.n
  pub slots : t.k ≡ s.k
  pub same_mark : mark t ≡ mark s
  pub same_current : current t ≡ current s
  pub same_next : next t ≡ next s
  pub same_opened : opened t ≡ opened s
  pub same_head : head t ≡ head s
  pub same_head_next : head_next t ≡ head_next s
  pub same_tail : tail t ≡ tail s
  pub same_doomed : doomed t ≡ doomed s
  pub same_first : first t ≡ first s
  pub same_mode : mode t ≡ mode s
  pub variables : (word : ℕ) → variable t word ≡ variable s word
  pub attempt_flags : (word : ℕ) → t.at (attempt_flag_seat word) ≡ s.at (attempt_flag_seat word)
  pub tx_flags : (word : ℕ) → t.at (tx_flag_seat word) ≡ s.at (tx_flag_seat word)
  pub entries : (slot : ℕ) → entry_at t slot ≡ entry_at s slot
  pub logs : (other : Log) → other ≢ log → (word : ℕ) →
      log_value t other word ≡ log_value s other word

-- what the image stands for
pub record StandsForTheSame (s t : State) : Type 0 where
  pub words : (word : ℕ) → committed_word t word ≡ committed_word s word
  pub place : place_of t ≡ place_of s
  pub held : held_entries t ≡ held_entries s
