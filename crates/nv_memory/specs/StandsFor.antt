-- What an image stands for, of whatever is written while a commit is made: the committed words,
-- the place of the program and, in the chapter on the ring, the held entries.
use Rattle.std.specs.Prelude.{ℕ, ◌==◌, ◌≡◌, Option, Some, None, if◌then◌else◌}
use Rattle.std.specs.Option.{unwrap_or}
use Rattle.nv_memory.specs.declared.log.Log.TheVariants as log
use Rattle.nv_memory.specs.State.{State}
use Rattle.nv_memory.specs.Words.{mark, current, next, opened, head, doomed, first, variable}
use Rattle.nv_memory.specs.Logs.{log_value}
use Rattle.nv_memory.specs.Ring.{held_count, is_taking, slot_of}

-- the value of a word in the first of two logs that has it
abbrev pub first_value : Option ℕ → Option ℕ → Option ℕ
first_value (Some value) other = Some value
first_value None other = other

-- the open unit's value of a word: the task log comes before the transaction log
abbrev pub unit_value : State → ℕ → Option ℕ
unit_value s word = first_value (log_value s log.Task word) (log_value s log.Tx word)

-- the slot of the entry at the head
abbrev pub head_slot : State → ℕ
head_slot s = slot_of s.k (head s)

-- what the commit under way is about to write to a variable word
abbrev pub applied_value : State → ℕ → Option ℕ
applied_value s word =
    if mark s == 2 then unit_value s word
    else (if is_taking s then log_value s (log.Entry (head_slot s)) word else None)

abbrev pub committed_word : State → ℕ → ℕ
committed_word s word = unwrap_or (applied_value s word) (variable s word)

-- where the program stands; 65535 after the halt
abbrev pub place_of : State → ℕ
place_of s = if mark s == 2 then next s else (if opened s == 1 then first s else current s)

-- nothing is left to do
pub record IsIdle (s : State) : Type 0 where
  pub current : current s ≡ 65535
  pub mark : mark s ≡ 0
  pub doomed : doomed s ≡ 0
  pub held : held_count s ≡ 0
