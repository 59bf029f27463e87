-- What an open unit amounts to, as the marker shows it: while a task goes into it, the task's part
-- counts already.
use Rattle.std.specs.Prelude.{ℕ, ◌==◌, ◌<◌, ◌≡◌, Bool, Option, if◌then◌else◌}
use Rattle.nv_memory.specs.declared.log.Log.TheVariants as log
use Rattle.nv_memory.specs.Logs.{log_value}
use Rattle.nv_memory.specs.StandsFor.{unit_value}
use Rattle.nv_memory.specs.State.{State}
use Rattle.nv_memory.specs.Words.{current, mark, next, tx_flag}
use Rattle.tx_buffer.specs.Keeps.{joined_flag}

abbrev pub unit_log : State → ℕ → Option ℕ
unit_log s word = if mark s == 1 then unit_value s word else log_value s log.Tx word

abbrev pub unit_flag : State → ℕ → Bool
unit_flag s word = if mark s == 1 then joined_flag s word else tx_flag s word

abbrev pub unit_next : State → ℕ
unit_next s = if mark s == 1 then next s else current s

-- it is the same after a write
pub record KeepsUnit (old new : State) : Type 0 where
  pub log : (word : ℕ) → unit_log new word ≡ unit_log old word
  pub flags : (word : ℕ) → word < old.n → unit_flag new word ≡ unit_flag old word
  pub next : unit_next new ≡ unit_next old
