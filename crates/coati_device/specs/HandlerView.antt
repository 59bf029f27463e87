-- What the bottom half in a handler sees of memory, in mode buffi: the log of its own entry, then
-- those of the held entries, the newest first, then the committed words. It stores into its log.
use Rattle.std.specs.Prelude.{ℕ, ◌≡◌, List}
use Rattle.nv_memory.specs.declared.log.Log.{Log}
use Rattle.nv_memory.specs.declared.log.Log.TheVariants as log
use Rattle.nv_memory.specs.Seats.{Memory}
use Rattle.nv_memory.specs.State.{State, state}
use Rattle.event_buffer.specs.Fill.{tail_slot}
use Rattle.buffi_sets.specs.View.{handler_word}
use Rattle.task_buffer.specs.Stores.{IsBegun}
use Rattle.word_cpu.specs.Meaning.{Meaning}
use Rattle.coati_device.specs.TaskView.{HasStoredIn, values_from}

-- the log of the entry at the tail
abbrev pub tail_log : State → Log
tail_log s = log.Entry (tail_slot s)

abbrev pub handler_words : Memory → List ℕ
handler_words m = values_from (handler_word (state m)) 0 m.n

-- memory as the handler's bottom half sees it
abbrev pub handler_view : Meaning Memory
handler_view = record {
  words = handler_words;
  begun = λ m word value part. IsBegun (state m) (tail_log (state m)) word value part;
  loaded = λ old word new. new ≡ old;
  stored = λ old word value part new is_last. HasStoredIn (tail_log (state old)) old word value
      part new is_last;
}
