-- What the bottom half of the posting at the head sees of memory, in mode split: its entry's log,
-- then the variables. It stores into that log.
use Rattle.std.specs.Prelude.{ℕ, ◌≡◌, List}
use Rattle.std.specs.Option.{unwrap_or}
use Rattle.nv_memory.specs.declared.log.Log.{Log}
use Rattle.nv_memory.specs.declared.log.Log.TheVariants as log
use Rattle.nv_memory.specs.Logs.{log_value}
use Rattle.nv_memory.specs.Seats.{Memory}
use Rattle.nv_memory.specs.StandsFor.{head_slot}
use Rattle.nv_memory.specs.State.{State, state}
use Rattle.nv_memory.specs.Words.{variable}
use Rattle.task_buffer.specs.Stores.{IsBegun}
use Rattle.word_cpu.specs.Meaning.{Meaning}
use Rattle.coati_device.specs.TaskView.{HasStoredIn, values_from}

-- the log of the entry at the head
abbrev pub head_log : State → Log
head_log s = log.Entry (head_slot s)

-- a word as the bottom half sees it
abbrev pub bottom_word : State → ℕ → ℕ
bottom_word s word = unwrap_or (log_value s (head_log s) word) (variable s word)

abbrev pub bottom_words : Memory → List ℕ
bottom_words m = values_from (bottom_word (state m)) 0 m.n

-- memory as the bottom half sees it
abbrev pub bottom_view : Meaning Memory
bottom_view = record {
  words = bottom_words;
  begun = λ m word value part. IsBegun (state m) (head_log (state m)) word value part;
  loaded = λ old word new. new ≡ old;
  stored = λ old word value part new is_last. HasStoredIn (head_log (state old)) old word value
      part new is_last;
}
