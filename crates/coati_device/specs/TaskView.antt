-- What a running task sees of memory: its own log, then the open transaction's, then the
-- variables. It stores into its log. In mode buffi a read from the variables sets the attempt's
-- flag of the word.
use Rattle.std.specs.Prelude.{ℕ, zero, suc, ◌≡◌, ◌==◌, List, [], ◌∷◌, Bool, not, is_some, ◌&&◌, ◌||◌, Option, Some, None, if◌then◌else◌}
use Rattle.std.specs.Option.{unwrap_or}
use Rattle.nv_memory.specs.declared.log.Log.{Log}
use Rattle.nv_memory.specs.declared.log.Log.TheVariants as log
use Rattle.nv_memory.specs.declared.write.Write.{Write}
use Rattle.nv_memory.specs.Seats.{Memory, written}
use Rattle.nv_memory.specs.StandsFor.{unit_value}
use Rattle.nv_memory.specs.State.{Change, State, Writes, state}
use Rattle.nv_memory.specs.Words.{attempt_flag, mode, variable}
use Rattle.buffi_sets.specs.Flags.{flag_change}
use Rattle.task_buffer.specs.Stores.{IsBegun, store_change, store_ends}
use Rattle.word_cpu.specs.Meaning.{Meaning}

-- memory after a change of one word
pub record HasWritten (old : Memory) (change : Change) (new : Memory) : Type 0 where
  pub write : Write
  pub writes : Writes old change write
  pub memory : new ≡ written old write

-- memory after at most one change
abbrev pub IsAfter : Memory → Option Change → Memory → Type 0
IsAfter old None new = new ≡ old
IsAfter old (Some change) new = HasWritten old change new

-- a word as the task sees it
abbrev pub task_word : State → ℕ → ℕ
task_word s word = unwrap_or (unit_value s word) (variable s word)

-- the values of a function from a number on
abbrev pub values_from : (ℕ → ℕ) → (at count : ℕ) → List ℕ
values_from value at zero = []
values_from value at (suc count) = value at ∷ values_from value (suc at) count

-- all words as the task sees them
abbrev pub task_words : Memory → List ℕ
task_words m = values_from (task_word (state m)) 0 m.n

-- a load is from the variables, and the flag isn't set
abbrev pub needs_flag : State → ℕ → Bool
needs_flag s word = mode s == 1 && not (is_some (unit_value s word) || attempt_flag s word)

-- what a load changes
abbrev pub load_change : State → ℕ → Option Change
load_change s word = if needs_flag s word then Some (flag_change word) else None

-- a part of a store into a log was made
pub record HasStoredIn (own : Log) (old : Memory) (word value part : ℕ) (new : Memory)
    (is_last : Bool) : Type 0 where
  pub wrote : HasWritten old (store_change (state old) own word value part) new
  pub last : is_last ≡ store_ends (state old) own word part

abbrev pub HasStored : Memory → (word value part : ℕ) → Memory → Bool → Type 0
HasStored old word value part new is_last = HasStoredIn log.Task old word value part new is_last

-- memory as a task sees it
abbrev pub task_view : Meaning Memory
task_view = record {
  words = task_words;
  begun = λ m word value part. IsBegun (state m) log.Task word value part;
  loaded = λ old word new. IsAfter old (load_change (state old) word) new;
  stored = HasStored;
}
